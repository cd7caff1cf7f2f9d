use Rattle.std.proofs.Common.{length, ◌-◌, ◌≤◌, take}
use Rattle.gix_config_value_c.specs.Plain.{Tells}
use Rattle.gix_config_value_c.proofs.plain.gcv_raw_next_plain.Given as goal

abbrev pub invariant-steps : goal.invariant-steps
invariant-steps l = (l.size ≤ length l.buffer)
    × Tells l.known l.fn.frame (take l.told l.steps) (take l.size l.buffer) l.frame

abbrev pub decreases-steps : goal.decreases-steps
decreases-steps l = length l.initial.steps - l.told
