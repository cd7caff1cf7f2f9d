use Rattle.std.proofs.Common.{refl}
use Rattle.gix_config_value_c.specs.Terminals.TellsDepth.{told}
use Rattle.gix_config_value_c.proofs.colors.gcv_raw_terminal_depth.Goals as goal

pub returns : goal.returns
returns c = told _ _ _ _ _ c.in-Some.ensures c.in-Some-given.ensures c.in-Some-given-2.ensures
    c.in-Some-given-3.ensures c.depth.ensures c.written_depth.ensures refl
