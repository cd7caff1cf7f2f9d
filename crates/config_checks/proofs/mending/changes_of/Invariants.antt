use Rattle.std.proofs.Common.{◌≡◌, map, take}
use Rattle.config_checks.specs.Mending.{change_of}
use Rattle.config_checks.proofs.mending.changes_of.Given as goal

abbrev pub invariant-loop-mend : goal.invariant-loop-mend
invariant-loop-mend l = l.changes.items ≡ map change_of (take l.mend-index l.mends)
