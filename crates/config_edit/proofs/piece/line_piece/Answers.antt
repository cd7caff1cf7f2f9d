use Rattle.std.proofs.Common.{inl, inr}
use Rattle.config_edit.proofs.Cuts.{line_made}
use Rattle.config_edit.proofs.Pieces.{joined_more, nothing_stops, refused, same_bytes}
use Rattle.config_edit.proofs.piece.line_piece.Goals as goal
use Rattle.config_edit.proofs.piece.line_piece.Goals.{then-tail, else-tail}

pub before-requires : goal.before-requires
before-requires c =
    let (tail, cut, is, plain, some) = c.in-Some.ensures.tail in
    (_, joined_more c.args.text.now c.args.blanks.now c.args.at.now tail c.in-Some.tail.rest.now c.requires.joined cut)

pub returns-after-tail-clause-piece : goal.returns-after-tail-clause-piece
returns-after-tail-clause-piece c =
    let (tail, cut, is, plain, some) = c.in-Some.ensures.tail in
    let blanks = c.args.blanks.now in
    let rest = c.in-Some.tail.rest.now in
    let whole = joined_more c.args.text.now blanks c.args.at.now tail rest c.requires.joined cut in
    let made =
    line_made c.if-tail.result blanks c.in-Some.tail.is_line tail c.requires.blank
    (same_bytes rest c.before-in-Some.ensures whole) is in
    record {
      joined = c.before-in-Some.ensures;
      blank = c.requires.blank;
      made = elim c.if-tail.branch [
        | then-tail w ↦ made (inr (some w.if-tail.true, w.result-is))
        | else-tail w ↦ made (inl (plain w.if-tail.false, w.result-is))
      ];
      unended = elim c.if-tail.branch [
        | then-tail w ↦ rw w.result-is tt
        | else-tail w ↦ rw w.result-is tt
      ];
    }

pub returns-in-None-clause-piece : goal.returns-in-None-clause-piece
returns-in-None-clause-piece c =
    refused c.args.blanks.now c.requires.joined c.requires.blank
    (nothing_stops c.args.at.now c.requires.starts c.in-None.ensures.tail)
