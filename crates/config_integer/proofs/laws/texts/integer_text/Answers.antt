use Rattle.config_integer.specs.Laws.IntegerShown.{integer_has_text, integer_shown_is_text}
use Rattle.config_integer.proofs.laws.texts.integer_text.Goals as goal

pub returns : goal.returns
returns c = λ v fits. integer_shown_is_text v (integer_has_text v fits)
