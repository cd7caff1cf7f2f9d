use Rattle.config_integer.specs.Laws.Amount.{amount_has_text, amount_shown_is_text}
use Rattle.config_integer.proofs.laws.texts.amount_text.Goals as goal

pub returns : goal.returns
returns c = λ v fits. amount_shown_is_text v (amount_has_text v fits)
