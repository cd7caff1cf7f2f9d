-- Amounts: integer texts, read as their product.
--
-- Look for: here the bound is on the product.
use Rattle.std.specs.Prelude.{ℕ, List}
use Rattle.std.specs.Fmt.{signed_decimal}
use Rattle.config_text.specs.declared.errors.Fault.{Fault}
use Rattle.config_integer.specs.declared.amount.Amount.{Amount}
use Rattle.config_integer.specs.Integer.{ProductInRange, IntegerFault, CanonicalNumber}

-- amount text: an integer text whose product is this number and is in range
abbrev pub AmountText : List ℕ → Amount → Type 0
AmountText t v = ProductInRange t v.0

-- the fault of a text: `Integer` if it is not an integer text, `Overflow` if its product is out of range
abbrev pub AmountFault : List ℕ → Fault → Type 0
AmountFault t fault = IntegerFault (λ _. ⊥) t fault

-- how an amount is shown: in decimal
abbrev pub amount_shown : Amount → List ℕ
amount_shown v = signed_decimal v.0

-- the canonical texts of amounts: canonical numbers, without a suffix
abbrev pub CanonicalAmount : List ℕ → Type 0
CanonicalAmount t = CanonicalNumber t
