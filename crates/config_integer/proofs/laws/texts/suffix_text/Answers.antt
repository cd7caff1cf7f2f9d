use Rattle.config_integer.specs.Laws.Suffix.{suffix_has_text, suffix_shown_is_text}
use Rattle.config_integer.proofs.laws.texts.suffix_text.Goals as goal

pub returns : goal.returns
returns c = λ v. suffix_shown_is_text v (suffix_has_text v)
