-- Numbers are booleans.
use Rattle.std.proofs.Common.{arith, ◌≢◌, ◌↔◌, ℕ, zero, suc, pos, negsuc, ℤ, inl, inr, List, Bool, true}
use Rattle.std.proofs.Common.{false, None}
use Rattle.std.specs.Prelude.{IsTrue}
use Rattle.config_text.specs.Value.{IsAccepted}
use Rattle.gix_config_value.specs.Boolean.{BooleanText}
use Rattle.gix_config_value.specs.Amount.{AmountText}
use Rattle.gix_config_value.specs.Boolean as boolean
use Rattle.config_integer.specs.declared.amount.Amount.{Amount}
use Rattle.config_integer.specs.contracts.amount.AmountValue.TheImpl.Laws.{decided-law as amount_decided}
use Rattle.config_checks.specs.Reasons.{IsJudgedBool}

abbrev truth_of : ℤ → Bool
truth_of (pos zero) = false
truth_of (pos (suc n)) = true
truth_of (negsuc n) = true

tells : (z : ℤ) → IsTrue (truth_of z) ↔ (z ≢ pos 0)
tells z = grind arith

number_is_boolean : (t : List ℕ) (n : Amount) → AmountText t n → IsAccepted BooleanText t
number_is_boolean t n is = (record { 0 = truth_of n.0 }, boolean.counted n is (tells n.0))

-- what is right as a boolean is a boolean text
pub accepted_boolean : (t : List ℕ) → IsJudgedBool t None → IsAccepted BooleanText t
accepted_boolean t judged = elim (amount_decided t) [
  | inl number ↦ number_is_boolean t number.0 number.1
  | inr none ↦ judged.other none
]
