use Rattle.std.proofs.Common.{◌≡◌, take}
use Rattle.std.specs.List.{AllZip}
use Rattle.gix_config_value_c.specs.Walks.{HoldsFrame}
use Rattle.gix_config_value_c.proofs.walk.put_frames.Given as goal

abbrev pub invariant-loop-frame : goal.invariant-loop-frame
invariant-loop-frame l =
    (l.count ≡ l.frame-index) × AllZip HoldsFrame (take l.count l.frames) (take l.count l.frame-items)
