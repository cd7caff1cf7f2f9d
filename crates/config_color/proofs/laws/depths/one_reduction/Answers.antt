use Rattle.config_color.proofs.Reduction.{one_nearest, one_reduced}
use Rattle.config_color.proofs.laws.depths.one_reduction.Goals as goal

pub returns-clause-nearest : goal.returns-clause-nearest
returns-clause-nearest c = one_nearest

pub returns-clause-color : goal.returns-clause-color
returns-clause-color c = one_reduced
