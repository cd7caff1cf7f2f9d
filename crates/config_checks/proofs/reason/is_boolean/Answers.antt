use Rattle.std.proofs.Common.{◌≡◌, Some, None}
use Rattle.config_checks.specs.declared.reason.Reason.{Reason}
use Rattle.config_checks.proofs.OneFinding.{int_once}
use Rattle.config_checks.proofs.reason.is_boolean.Goals as goal

no_reason : (r : Reason) → ¬ (None ≡ Some r)
no_reason r same = absurd (cc)

pub returns-in-Some : goal.returns-in-Some
returns-in-Some c = (
  λ no. absurd (cc),
  λ right.
      absurd (no_reason _ (int_once c.args.text.now None (Some c.in-Some.field-0) right c.in-Some.ensures)),
)
