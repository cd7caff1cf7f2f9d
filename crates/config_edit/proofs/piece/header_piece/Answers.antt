use Rattle.std.proofs.Common.{arith, ◌∷◌, refl}
use Rattle.config_edit.proofs.Pieces.{header_cut, header_stops, refused, same_bytes}
use Rattle.config_file.proofs.Bounds.{header_shortens, length_joined}
use Rattle.config_edit.proofs.piece.header_piece.Goals as goal

pub before-requires : goal.before-requires
before-requires c =
    let (bytes, joined, at) = header_cut c.args.blanks.now c.requires.joined c.in-Ok.ensures in (bytes, joined)

pub returns-in-Ok-clause-piece : goal.returns-in-Ok-clause-piece
returns-in-Ok-clause-piece c =
    let (bytes, joined, at) = header_cut c.args.blanks.now c.requires.joined c.in-Ok.ensures in
    record {
      joined = c.before-in-Ok.ensures;
      blank = c.requires.blank;
      made = rw (same_bytes c.in-Ok.rest.now joined c.before-in-Ok.ensures) at at;
      unended = refl;
    }

pub returns-in-Ok-clause-shorter : goal.returns-in-Ok-clause-shorter
returns-in-Ok-clause-shorter c =
    let shorter = header_shortens c.in-Ok.ensures in
    let whole = length_joined c.args.text.now c.args.blanks.now (91 ∷ c.args.after.now) c.requires.joined in
    omega arith

pub returns-in-Err-clause-piece : goal.returns-in-Err-clause-piece
returns-in-Err-clause-piece c =
    refused c.args.blanks.now c.requires.joined c.requires.blank (header_stops c.in-Err.ensures)
