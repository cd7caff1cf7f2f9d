use Rattle.std.proofs.Common.{inl, inr, Some}
use Rattle.config_edit.proofs.Edits.{no_file}
use Rattle.config_edit.proofs.EditedKeys.{edit, refuses, changed_key, added_key}
use Rattle.config_edit.proofs.set.Goals as goal

pub returns-then-replaced : goal.returns-then-replaced
returns-then-replaced c =
    let (contents, ends, r) = rw c.in-Done.is at c.in_ok-replaced.ensures in
    let key = c.in_ok-key.ensures in
    let value = c.in_ok-check_value.ensures in
    refuses (Some c.args.value.now) (key.0, key.2, value.1) c.split_mark.ensures ends
    (r.many c.if-replaced.true)

pub returns-in_ok-marked-in-Done : goal.returns-in_ok-marked-in-Done
returns-in_ok-marked-in-Done c =
    let split = c.split_mark.ensures in
    let (contents, ends, r) = rw c.in-Done.is at c.in_ok-replaced.ensures in
    edit c.in_ok-key.ensures.0 split ends
    (inl (changed_key split r c.if-replaced.false c.in_ok-marked-in-Done.ensures))

pub returns-in_ok-marked-in-Nothing : goal.returns-in_ok-marked-in-Nothing
returns-in_ok-marked-in-Nothing c =
    let split = c.split_mark.ensures in
    let (contents, ends, nothing) = rw c.in-Nothing.is at c.in_ok-replaced.ensures in
    let added = c.in_ok-added-in-Nothing.ensures contents ends in
    edit c.in_ok-key.ensures.0 split ends
    (inr (nothing, added_key split added c.in_ok-marked-in-Nothing.ensures))

pub fault_of-requires : goal.fault_of-requires
fault_of-requires c = no_file c.split_mark.ensures (rw c.in-Unread.is at c.in_ok-replaced.ensures)
