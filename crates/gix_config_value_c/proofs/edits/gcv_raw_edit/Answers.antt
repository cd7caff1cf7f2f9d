use Rattle.gix_config_value_c.specs.Edits.EditsBy.{edited}
use Rattle.gix_config_value_c.proofs.Edited.{into}
use Rattle.gix_config_value_c.proofs.edits.gcv_raw_edit.Goals as goal

pub returns : goal.returns
returns c =
    edited c.in-Some.edit c.in-Some.ensures
    (into (λ made. made.items) _ _ c.edited.result c.edited.ensures c.answer.ensures)
