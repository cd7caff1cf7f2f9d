use Rattle.config_word.specs.Laws.Name.{name_fits, name_has_text, name_shown_is_text}
use Rattle.config_word.proofs.laws.texts.name_text.Goals as goal

pub returns-clause-shown : goal.returns-clause-shown
returns-clause-shown c = λ n fits. name_shown_is_text n (name_has_text n fits)

pub returns-clause-fits : goal.returns-clause-fits
returns-clause-fits c = name_fits
