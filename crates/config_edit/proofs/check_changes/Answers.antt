use Rattle.std.proofs.Common.{◌+◌, ◌∷◌, [], sym, take, drop}
use Rattle.std.proofs.lemmas.List.{take-append-drop}
use Rattle.config_file.proofs.ListsA.{all_appended}
use Rattle.config_edit.specs.Reading.{IsWritable}
use Rattle.config_edit.proofs.EditedKeys.{all_written, take_more, take_all}
use Rattle.config_edit.proofs.check_changes.Goals as goal

pub changes-preserved : goal.changes-preserved
changes-preserved c =
    let changes = c.args.changes.now in
    let index = c.changes.index in
    rw (take_more index changes c.in-Some.change.now c.in-Some.ensures.0)
    (all_appended IsWritable (take index changes) (c.in-Some.change.now ∷ []) c.changes.invariant
    (c.in_default-check_change.ensures, tt))

pub returns-in-Err : goal.returns-in-Err
returns-in-Err c =
    let changes = c.args.changes.now in
    let index = c.changes.index in
    let split = rw c.in-Some.ensures.0 at (sym (take-append-drop index changes)) in
    let before = all_written (take index changes) c.changes.invariant in
    (take index changes, drop (index + 1) changes, c.in-Some.change.now, split, before, c.in-Err.ensures)

pub returns : goal.returns
returns c = rw (take_all c.changes.index c.args.changes.now c.in_default.ensures) at c.changes.invariant
