use Rattle.std.proofs.Common.{refl, rules}
use Rattle.config_checks.specs.Reasons.HasFinding.{outside, wrong}
use Rattle.config_checks.proofs.reason.find.Goals as goal

pub returns-in-Some : goal.returns-in-Some
returns-in-Some c = outside c.in-Some.reason c.in-Some.ensures refl

pub returns-in-Ok-Some : goal.returns-in-Ok-Some
returns-in-Ok-Some c = wrong c.in_default.ensures c.in-Ok-Some.reason (search rules) refl
