use Rattle.std.proofs.Common.{take}
use Rattle.std.specs.List.{AllZip}
use Rattle.gix_config_value_c.specs.Walks.{HoldsFrame}
use Rattle.gix_config_value_c.proofs.walk.walk_of.Given as goal

abbrev pub invariant-loop-frame : goal.invariant-loop-frame
invariant-loop-frame l = AllZip HoldsFrame (take l.frame-index l.fn.frames) l.walk.frames.items
