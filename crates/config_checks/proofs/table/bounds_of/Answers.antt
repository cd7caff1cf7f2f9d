use Rattle.std.proofs.Common.{rules, refl}
use Rattle.config_checks.proofs.table.bounds_of.Goals as goal

pub returns-then-low-high-clause-refused : goal.returns-then-low-high-clause-refused
returns-then-low-high-clause-refused c = (refl, c.in-Some.low, c.in-Some.high, search rules, search rules)
