use Rattle.std.proofs.Common.{inl, inr}
use Rattle.config_edit.proofs.Edits.{no_file}
use Rattle.config_edit.proofs.EditedKeys.{edit, replaced_key, added_key}
use Rattle.config_edit.proofs.replace_all.Goals as goal

pub returns-in_ok-marked-in-Done : goal.returns-in_ok-marked-in-Done
returns-in_ok-marked-in-Done c =
    let split = c.split_mark.ensures in
    let (contents, ends, r) = rw c.in-Done.is at c.in_ok-replaced.ensures in
    edit c.in_ok-key.ensures.0 split ends
    (inl (replaced_key split r c.in_ok-marked-in-Done.ensures))

pub returns-in_ok-marked-in-Nothing : goal.returns-in_ok-marked-in-Nothing
returns-in_ok-marked-in-Nothing c =
    let split = c.split_mark.ensures in
    let (contents, ends, nothing) = rw c.in-Nothing.is at c.in_ok-replaced.ensures in
    let added = c.in_ok-added-in-Nothing.ensures contents ends in
    edit c.in_ok-key.ensures.0 split ends
    (inr (nothing, added_key split added c.in_ok-marked-in-Nothing.ensures))

pub fault_of-requires : goal.fault_of-requires
fault_of-requires c = no_file c.split_mark.ensures (rw c.in-Unread.is at c.in_ok-replaced.ensures)
