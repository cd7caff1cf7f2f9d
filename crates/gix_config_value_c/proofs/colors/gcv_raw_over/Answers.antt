use Rattle.std.proofs.Common.{refl}
use Rattle.gix_config_value_c.specs.Colors.LaysOver.{laid}
use Rattle.gix_config_value_c.proofs.colors.gcv_raw_over.Goals as goal

pub returns : goal.returns
returns c = laid _ _ _ (c.in-Some.ensures, c.in-Some-color_of.ensures) c.over.ensures.over c.color_struct.ensures refl
