use Rattle.std.proofs.Common.{◌≡◌, ◌≤◌, length, drop, reverse}
use Rattle.config_checks.specs.Rows.{rows_of}
use Rattle.config_checks.proofs.fix.backwards.Given as goal

abbrev pub invariant-runs : goal.invariant-runs
invariant-runs l = record {
  so_far : rows_of l.runs.items ≡ reverse (drop l.left l.rows);
  within : l.left ≤ length l.rows;
}

abbrev pub decreases-runs : goal.decreases-runs
decreases-runs l = l.left
