use Rattle.std.proofs.Common.{length, take, ◌-◌, ◌≤◌}
use Rattle.config_file.specs.KeyView.{key_of}
use Rattle.config_checks.specs.Rows.{CoversNone, rows_of}
use Rattle.config_checks.proofs.lookup.row_from.Given as goal

abbrev pub invariant-runs : goal.invariant-runs
invariant-runs l = (l.at ≤ length l.runs) × CoversNone (rows_of (take l.at l.runs)) (key_of l.key)

abbrev pub decreases-runs : goal.decreases-runs
decreases-runs l = length l.runs - l.at
