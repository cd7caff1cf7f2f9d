use Rattle.std.proofs.Common.{option_copied}
use Rattle.config_edit.proofs.EditedKeys.{has_name, value_fits, comment_refused}
use Rattle.config_edit.proofs.check_change.Goals as goal

pub returns-in-Err-check_comment : goal.returns-in-Err-check_comment
returns-in-Err-check_comment c =
    let change = c.args.change.now in
    let (is, refuses) = c.in-Err-check_comment.ensures in
    comment_refused change _ (has_name change c.in_default.ensures)
    (value_fits (option_copied change.value) c.in_ok-check_given.ensures) is refuses
