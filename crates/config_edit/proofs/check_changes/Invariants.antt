use Rattle.std.proofs.Common.{length, take, ◌-◌}
use Rattle.std.specs.List.{AllByRecursion}
use Rattle.config_edit.specs.Reading.{IsWritable}
use Rattle.config_edit.proofs.check_changes.Given as goal

abbrev pub invariant-changes : goal.invariant-changes
invariant-changes l = AllByRecursion IsWritable (take l.index l.fn.changes)

abbrev pub decreases-changes : goal.decreases-changes
decreases-changes l = length l.fn.changes - l.index
