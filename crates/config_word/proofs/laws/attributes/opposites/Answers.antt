use Rattle.config_word.proofs.Opposites.{mutual_opposites}
use Rattle.config_word.proofs.laws.attributes.opposites.Goals as goal

pub returns : goal.returns
returns c = mutual_opposites
