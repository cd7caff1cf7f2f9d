use Rattle.config_word.proofs.SeveralAttributes.{several_refused}
use Rattle.config_word.proofs.laws.attributes.several.Goals as goal

pub returns : goal.returns
returns c = several_refused
