use Rattle.std.proofs.Common.{◌∙◌, sym, true≢false, refl, inr}
use Rattle.config_answers.proofs.choice.Choice.give_value.Goals as goal

pub returns-then-not-has_value-clause-gives : goal.returns-then-not-has_value-clause-gives
returns-then-not-has_value-clause-gives g c =
    let has = rw c.bytes_of.ensures at c.has_value.ensures.has in (
      c.in_ok-setting.setting,
      c.in_ok-setting.ensures.entry c.requires.fits,
      c.in_ok-setting.ensures.scope,
      inr (λ fits. true≢false (sym (has.1 fits) ∙ c.if-not-has_value.true), refl),
    )
