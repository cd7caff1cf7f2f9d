use Rattle.std.proofs.Common.{◌≡◌, ◌≤◌, ◌-◌, length, take}
use Rattle.config_checks.specs.Rows.{rows_of}
use Rattle.config_checks.proofs.lookup.runs_of.Given as goal

abbrev pub invariant-runs : goal.invariant-runs
invariant-runs l = record {
  so_far : rows_of l.runs.items ≡ take l.start l.rows;
  within : l.start ≤ length l.rows;
}

abbrev pub decreases-runs : goal.decreases-runs
decreases-runs l = length l.rows - l.start
