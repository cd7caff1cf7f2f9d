use Rattle.config_color.proofs.OverLemmas.{one_layering}
use Rattle.config_color.proofs.laws.colors.one_layering.Goals as goal

pub returns : goal.returns
returns c = one_layering
