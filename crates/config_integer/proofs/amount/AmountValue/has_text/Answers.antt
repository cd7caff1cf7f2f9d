use Rattle.std.proofs.Common.{refl, rules, w64, FitsSigned}
use Rattle.config_text.specs.Laws.Numerals.{in_range_from_fits}
use Rattle.config_integer.specs.Laws.Amount.{amount_has_text}
use Rattle.config_integer.proofs.amount.AmountValue.has_text.Goals as goal

pub returns : goal.returns
returns c =
    let f : FitsSigned w64 c.args.self.now.0 = search rules in
    (λ _. amount_has_text c.args.self.now (in_range_from_fits c.args.self.now.0 f), λ _. refl)
