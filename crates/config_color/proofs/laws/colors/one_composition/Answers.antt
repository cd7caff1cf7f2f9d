use Rattle.config_color.specs.Laws.Composition.{composes_one}
use Rattle.config_color.proofs.laws.colors.one_composition.Goals as goal

pub returns : goal.returns
returns c = composes_one
