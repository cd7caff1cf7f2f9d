use Rattle.std.proofs.Common.{refl}
use Rattle.gix_config_value_c.specs.Colors.ReducesInto.{reduced, bad_depth}
use Rattle.gix_config_value_c.proofs.colors.gcv_raw_reduce_color.Goals as goal

pub returns : goal.returns
returns c =
    reduced _ _ _ c.in-Some.ensures c.in-Some-depth_of.ensures c.reduced.ensures.exact c.color_struct.ensures refl

pub returns-in_default-depth_of : goal.returns-in_default-depth_of
returns-in_default-depth_of c = bad_depth _ c.in-Some.ensures c.in_default-depth_of.ensures (refl, refl)
