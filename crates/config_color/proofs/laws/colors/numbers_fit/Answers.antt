use Rattle.config_color.specs.Laws.ColorShown.{parts_fit}
use Rattle.config_color.proofs.laws.colors.numbers_fit.Goals as goal

pub returns : goal.returns
returns c = parts_fit
