use Rattle.std.proofs.Common.{◌≤◌, ◌-◌, length}
use Rattle.config_color.specs.Reading.Split.{IsWithoutSpace}
use Rattle.config_color.proofs.color.end_of_runs.Given as goal

abbrev pub invariant-loop-at : goal.invariant-loop-at
invariant-loop-at l = (l.at ≤ length l.text) × IsWithoutSpace l.text l.at

abbrev pub decreases-loop-at : goal.decreases-loop-at
decreases-loop-at l = length l.text - l.at
