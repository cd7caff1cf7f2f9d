use Rattle.std.proofs.Common.{arith}
use Rattle.config_edit.proofs.Pieces.{entry_cut, entry_stops, no_entry_goes_on, refused, same_bytes}
use Rattle.config_file.proofs.Bounds.{entry_shortens, length_joined}
use Rattle.config_edit.proofs.piece.entry_piece.Goals as goal

pub before-requires : goal.before-requires
before-requires c =
    let (tail, cut, is, plain, some) = c.in-Some.ensures.tail in
    let (bytes, joined, made) = entry_cut c.args.blanks.now c.requires.joined c.requires.letter c.in-Ok.ensures cut is in
    (bytes, joined)

pub returns-in-Some-clause-piece : goal.returns-in-Some-clause-piece
returns-in-Some-clause-piece c =
    let (tail, cut, is, plain, some) = c.in-Some.ensures.tail in
    let (bytes, joined, made) = entry_cut c.args.blanks.now c.requires.joined c.requires.letter c.in-Ok.ensures cut is in
    record {
      joined = c.before-in-Some.ensures;
      blank = c.requires.blank;
      made = rw (same_bytes c.in-Some.tail.rest.now joined c.before-in-Some.ensures) at made;
      unended = tt;
    }

pub returns-in-Some-clause-shorter : goal.returns-in-Some-clause-shorter
returns-in-Some-clause-shorter c =
    let (b, more, begins, letter) = c.requires.letter in
    let shorter = entry_shortens c.args.at.now begins letter c.in-Ok.ensures in
    let within = c.in-Some.ensures.within in
    let whole = length_joined c.args.text.now c.args.blanks.now c.args.at.now c.requires.joined in
    omega arith

pub returns-in-None-clause-piece : goal.returns-in-None-clause-piece
returns-in-None-clause-piece c = λ reads. no_entry_goes_on c.in-Ok.ensures c.in-None.ensures.tail

pub returns-in-Err-clause-piece : goal.returns-in-Err-clause-piece
returns-in-Err-clause-piece c =
    refused c.args.blanks.now c.requires.joined c.requires.blank
    (entry_stops c.requires.letter c.in-Err.ensures)
