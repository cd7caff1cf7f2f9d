use Rattle.std.proofs.Common.{◌≡◌, ◌++◌, ◌∙◌, ap}
use Rattle.std.proofs.Math.ListN.{drop_of_length-le}
use Rattle.config_edit.proofs.EachEntry.{changing_begins, changing_passes, changing_keeps, changing_changes}
use Rattle.config_edit.proofs.EachEntry.{each_changed, not_in_order, some_after}
use Rattle.config_edit.proofs.each.change_each.Goals as goal
use Rattle.config_edit.proofs.each.change_each.Goals.{in-Some-due+in_ok-push_change-in-Some-due}
use Rattle.config_edit.proofs.each.change_each.Goals.{in-None+in_ok-extend_from_slice-in-None}

pub pieces-init : goal.pieces-init
pieces-init c =
    rw c.in_ok-new.ensures.items (changing_begins c.args.changes.now c.args.text.now c.requires)

pub pieces-preserved-in_default-held : goal.pieces-preserved-in_default-held
pieces-preserved-in_default-held c =
    rw c.in_ok-extend_from_slice.ensures.items
    (changing_passes c.in-Some.piece c.pieces.invariant c.in-Some.ensures.piece c.in-Some.ensures.shorter c.in_default-held.not-Entry)

pub pieces-preserved : goal.pieces-preserved
pieces-preserved c =
    let piece = c.in-Some.piece in
    let is = c.in-Some.ensures.piece in
    let shorter = c.in-Some.ensures.shorter in
    let parts = c.in-Entry.parts in
    let m = c.match-due in
    elim c.match-due.branch [
      | in-Some-due+in_ok-push_change-in-Some-due w ↦
          let (put, pushed, changed) = w.in_ok-push_change-in-Some-due.ensures in
          let (left_is, is_due, below) = rw w.in-Some-due.is at c.due.ensures in
          let new_is : m.new.items ≡ c.pieces.new.items ++ put = ap (λ n. n.items) w.new-is ∙ pushed in
          rw (new_is, w.made-is)
          (changing_changes {change = w.in-Some-due.change.now} piece parts c.pieces.invariant is shorter
          c.in-Entry.is left_is is_due changed)
      | in-None+in_ok-extend_from_slice-in-None w ↦
          let new_is : m.new.items ≡ c.pieces.new.items ++ piece.bytes.now =
          ap (λ n. n.items) w.new-is ∙ w.in_ok-extend_from_slice-in-None.ensures.items in
          rw (new_is, w.made-is)
          (changing_keeps piece parts c.pieces.invariant is shorter c.in-Entry.is
          (rw w.in-None.is at c.due.ensures))
    ]

pub returns-then-made-changes : goal.returns-then-made-changes
returns-then-made-changes c = λ contents ends.
    not_in_order c.pieces.invariant ends c.in_default.ensures.piece
    (some_after c.pieces.made c.args.changes.now c.if-made-changes.true)

pub returns-else-made-changes : goal.returns-else-made-changes
returns-else-made-changes c = λ contents ends.
    each_changed c.pieces.invariant ends c.in_default.ensures.piece
    (drop_of_length-le c.args.changes.now c.if-made-changes.false)
