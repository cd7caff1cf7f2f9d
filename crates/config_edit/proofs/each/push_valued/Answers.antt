use Rattle.config_edit.proofs.EachEntry.{valued_old}
use Rattle.config_edit.proofs.each.push_valued.Goals as goal

pub returns-in_ok-push_changed-in-Some : goal.returns-in_ok-push_changed-in-Some
returns-in_ok-push_changed-in-Some c =
    let (put, pushed, set) = c.in_ok-push_changed-in-Some.ensures in
    (put, pushed, rw c.in-Some.is set)

pub returns-in_ok-extend_from_slice-in-None : goal.returns-in_ok-extend_from_slice-in-None
returns-in_ok-extend_from_slice-in-None c =
    let kept = valued_old c.requires.entry in
    (c.args.piece.now.bytes.now, c.in_ok-extend_from_slice-in-None.ensures.items, rw c.in-None.is kept)
