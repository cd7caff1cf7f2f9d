use Rattle.config_edit.proofs.EditedKeys.{edit_file, added_key}
use Rattle.config_edit.proofs.add.Goals as goal

pub returns : goal.returns
returns c =
    let split = c.split_mark.ensures in
    edit_file c.in_ok-key.ensures.0 split c.in_ok-check_file.ensures
    (λ contents ends. added_key split (c.in_ok-added.ensures contents ends) c.in_ok-marked.ensures)
