use Rattle.std.proofs.Common.{◌≢◌, ◌↔◌, ℤ, pos, negsuc, zero, suc, not, IsTrue, refl, arith, w64, of_z}
use Rattle.std.proofs.Common.{nat_eq}
use Rattle.std.proofs.lemmas.Int.{ints}
use Rattle.std.proofs.lemmas.Bool.Decides.{nat_tests}
use Rattle.config_text.specs.Numerals.{IsInI64}
use Rattle.config_boolean.specs.Boolean.BooleanText.{counted}
use Rattle.config_boolean.specs.Laws.Boolean.{boolean_refused}
use Rattle.config_boolean.proofs.boolean.read_amount.Goals as goal

-- the bits of a number in range are zero exactly if the number is zero
truth_of : (z : ℤ) → IsInI64 z → IsTrue (not (nat_eq (of_z w64 z) 0)) ↔ (z ≢ pos 0)
truth_of (pos zero) r = (λ h. absurd (cc (h)), λ h. absurd (h refl))
truth_of (pos (suc n)) r = (λ h e. cc (e), λ h. grind (arith, nat_tests))
truth_of (negsuc n) r = (λ h e. cc (e), λ h. grind (arith, nat_tests, ints, r.low))

pub returns-in-Ok : goal.returns-in-Ok
returns-in-Ok c =
    counted c.in-Ok.field-0 c.in-Ok.ensures (truth_of c.in-Ok.field-0.0 c.in-Ok.ensures.in_range)

pub returns-in-Err : goal.returns-in-Err
returns-in-Err c = boolean_refused c.args.text.now c.requires.affirms c.requires.denies c.in-Err.ensures.1
