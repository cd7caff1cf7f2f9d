use Rattle.std.proofs.Common.{map}
use Rattle.config_edit.specs.Edit.{content}
use Rattle.config_edit.proofs.Edits.{body_ends, text_of}
use Rattle.config_edit.proofs.EditedKeys.{changed_entries, all_written, change_refused}
use Rattle.config_edit.proofs.change_entries.Goals as goal

pub returns-in_ok-marked-in-Some : goal.returns-in_ok-marked-in-Some
returns-in_ok-marked-in-Some c =
    let (entries, is_file) = c.in_default.ensures in
    let ends = body_ends is_file c.split_mark.ensures in
    let each = rw c.in-Some.is at (c.in_ok-new.ensures (map content entries) ends) in
    changed_entries c.split_mark.ensures ends each c.in_ok-marked-in-Some.ensures

pub returns-in-None : goal.returns-in-None
returns-in-None c =
    let (entries, is_file) = c.in_default.ensures in
    let ends = body_ends is_file c.split_mark.ensures in
    let out = rw c.in-None.is at (c.in_ok-new.ensures (map content entries) ends) in (
      all_written c.args.changes.now c.in_ok-check_changes.ensures,
      map content entries,
      text_of c.split_mark.ensures ends,
      out,
    )

pub returns-in-Err : goal.returns-in-Err
returns-in-Err c =
    change_refused c.args.changes.now c.args.text.now _
    (all_written c.args.changes.now c.in_ok-check_changes.ensures) c.in-Err.ensures
