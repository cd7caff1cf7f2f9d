use Rattle.std.proofs.Common.{refl}
use Rattle.config_checks.specs.Reasons.IsJudgedByRow.{refused}
use Rattle.config_checks.proofs.reason.judge.Goals as goal

pub returns-in-Ok-Some : goal.returns-in-Ok-Some
returns-in-Ok-Some c =
    let wrong = rw c.in-Ok-Some.field-0-is at c.in-Ok-Some.ensures in
    rw c.in-Some.is (refused c.in-Ok-Some.reason wrong refl)
