use Rattle.std.proofs.Common.{◌≡◌, ◌+◌, length, map}
use Rattle.config_checks.specs.Rows.{AddsRows}
use Rattle.config_checks.proofs.table.read_rows.Given as goal

abbrev pub invariant-loop-line : goal.invariant-loop-line
invariant-loop-line l = record {
  numbered : l.number ≡ length l.yielded + 1;
  added : AddsRows (map (λ line. line.now) l.yielded) l.fn.rows.items l.rows.items;
}
