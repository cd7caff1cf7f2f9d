use Rattle.config_boolean.specs.Laws.Boolean.{boolean_has_text, boolean_shown_is_text}
use Rattle.config_boolean.proofs.laws.texts.boolean_text.Goals as goal

pub returns : goal.returns
returns c = λ v. boolean_shown_is_text v (boolean_has_text v)
