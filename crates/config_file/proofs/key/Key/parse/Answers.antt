use Rattle.config_file.specs.Key.{no_dot, wrong}
use Rattle.config_file.proofs.key.Key.parse.Goals as goal

pub returns-in_default : goal.returns-in_default
returns-in_default c = no_dot c.in_default.ensures

pub returns-in-Some-wrong : goal.returns-in-Some-wrong
returns-in-Some-wrong c = wrong c.in-Some.ensures c.in-Some-wrong.ensures
