use Rattle.std.proofs.Common.{subst}
use Rattle.config_integer.specs.contracts.amount.AmountValue.TheImpl.Laws.{one_value-law as amount_one_value}
use Rattle.config_checks.specs.Reasons.{IsWithin, least_int, greatest_int}
use Rattle.config_checks.proofs.reason.is_int.Goals as goal

pub returns-in-Ok : goal.returns-in-Ok
returns-in-Ok c = (
  λ yes. (c.in-Ok.amount, c.in-Ok.ensures, c.is_within.ensures.0 yes),
  λ number. c.is_within.ensures.1
      (subst (IsWithin least_int greatest_int)
      (amount_one_value c.args.text.now number.0 c.in-Ok.amount number.1 c.in-Ok.ensures) number.2),
)
