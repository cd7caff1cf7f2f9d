-- Integers and amounts of literal texts: functions that compute them, and that these compute the grammars.
use Rattle.std.proofs.Common.{◌≡◌, ℕ, ℤ, pos, negsuc, Bool, true, false, List, Option, Some, None, nat_lt}
use Rattle.std.proofs.Common.{refl, ap, subst, sym, arith}
use Rattle.std.specs.Prelude.{⊤, Result, Ok, Err, IfOk, IfErr}
use Rattle.std.specs.Option.{option_and_then}
use Rattle.std.proofs.lemmas.Bool.Decides.{nat_tests}
use Rattle.std.proofs.lemmas.Int.{ints}
use Rattle.std.proofs.lemmas.Option.{none-some, same_Some}
use Rattle.config_integer.specs.declared.integer.Integer.{Integer}
use Rattle.config_integer.specs.declared.amount.Amount.{Amount}
use Rattle.config_integer.specs.Integer.{IntegerText, ProductInRange, IntegerFault, product}
use Rattle.config_integer.specs.Amount.{AmountText}
use Rattle.config_integer.specs.Reading.Integer.{suffix_of, integer_of}
use Rattle.config_integer.specs.Laws.Integer.{integer_of_is, product_of, product_one_value}
use Rattle.config_text.specs.declared.errors.Error.{Error}
use Rattle.config_text.specs.declared.errors.Fault.{Fault}
use Rattle.config_text.specs.declared.errors.Fault.TheVariants as faults
use Rattle.config_text.specs.Numerals.{IsInI64}
use Rattle.config_text.specs.Value.{IsRefused}
use Rattle.config_text.specs.Laws.Value.{IsValueOf}
use Rattle.config_text.proofs.OnLiterals.{refused_by}

-- what a proof unfolds to compute `suffix_of`, `integer_of` and `amount_of` of a literal
unfoldable pub integer_on_literals : ⊤
unfolding suffix_of
integer_on_literals = tt

-- a text has the value that `integer_of` returns for it, and is refused if `integer_of` returns `None`
pub integer_text : (t : List ℕ) (v : Integer) → integer_of t ≡ Some v → IntegerText t v
integer_text = integer_of_is.derived

pub integer_refused : (t : List ℕ) → integer_of t ≡ None → IsRefused IntegerText t
integer_refused = refused_by integer_of_is

-- whether a number is in range
abbrev pub is_in_range : ℤ → Bool
is_in_range (pos n) = nat_lt n 9223372036854775808
is_in_range (negsuc n) = nat_lt n 9223372036854775808

abbrev amount_in : Integer → Bool → Option Amount
amount_in v true = Some (record { 0 = product v })
amount_in v false = None

-- the product of an integer, or `None` if it is out of range
abbrev pub amount_from : Integer → Option Amount
amount_from v = amount_in v (is_in_range (product v))

-- a function that reads amount texts: the product of the integer that is read, if it is in range
abbrev pub amount_of : List ℕ → Option Amount
amount_of t = option_and_then amount_from (integer_of t)

in_range_told : (z : ℤ) → is_in_range z ≡ true → IsInI64 z
in_range_told (pos n) e = record { low = omega (arith, ints); high = grind (arith, nat_tests, ints) }
in_range_told (negsuc n) e = record { low = grind (arith, nat_tests, ints); high = omega (arith, ints) }

out_of_range_told : (z : ℤ) → is_in_range z ≡ false → ¬ (IsInI64 z)
out_of_range_told (pos n) e r = grind (arith, nat_tests, ints, r.high)
out_of_range_told (negsuc n) e r = grind (arith, nat_tests, ints, r.low)

in_range_product : (t : List ℕ) (v : Integer) → IntegerText t v → is_in_range (product v) ≡ true
    → ProductInRange t (product v)
in_range_product t v text r = record {
  product_text = product_of t v text;
  in_range = in_range_told (product v) r;
}

amount_found : (t : List ℕ) (a : Amount) → AmountText t a → amount_of t ≡ Some a
amount_found t a p = at p.product_text.integer p.product_text.text p.product_text.number where
  at : (v : Integer) → IntegerText t v → a.0 ≡ product v → amount_of t ≡ Some a
  at v text e = rw (integer_of_is.found t v text) (told (is_in_range (product v)) refl) where
    told : (b : Bool) → is_in_range (product v) ≡ b → amount_in v b ≡ Some a
    told true r = ap (λ z. Some (let w : Amount = record { 0 = z } in w)) (sym e)
    told false r = absurd (out_of_range_told (product v) r (subst IsInI64 e p.in_range))

amount_derived : (t : List ℕ) (a : Amount) → amount_of t ≡ Some a → AmountText t a
amount_derived t a e = told (integer_of t) refl e where
  told : (o : Option Integer) → integer_of t ≡ o → option_and_then amount_from o ≡ Some a → AmountText t a
  told None p e = absurd (none-some a e)
  told (Some v) p e = ranged (is_in_range (product v)) refl e where
    ranged : (b : Bool) → is_in_range (product v) ≡ b → amount_in v b ≡ Some a → AmountText t a
    ranged true r e = subst (AmountText t) (same_Some _ a e) (in_range_product t v (integer_text t v p) r)
    ranged false r e = absurd (none-some a e)

-- `amount_of` computes the grammar of amounts
pub amount_of_is : IsValueOf AmountText amount_of
amount_of_is = record { found = amount_found; derived = amount_derived }

-- an integer text whose product is out of range has the fault `Overflow`
pub product_overflows : (refuses : ℤ → Type 0) (t : List ℕ) (v : Integer) → integer_of t ≡ Some v
    → is_in_range (product v) ≡ false → IntegerFault refuses t faults.Overflow
product_overflows refuses t v e out = (
  product v,
  product_of t v (integer_text t v e),
  out_of_range_told (product v) out,
)

-- a text with a product in range has a fault only if the caller's type refuses that product
refused_product : (refuses : ℤ → Type 0) (t : List ℕ) (f : Fault) (z : ℤ) → ProductInRange t z
    → IntegerFault refuses t f → refuses z
refused_product refuses t faults.Integer z p r = absurd (r p.product_text.integer p.product_text.text)
refused_product refuses t faults.Overflow z p r =
    absurd (r.2 (subst IsInI64 (product_one_value t z r.0 p.product_text r.1) p.in_range))
refused_product refuses t faults.OutOfRange z p r =
    subst refuses (product_one_value t r.0 z r.1.product_text p.product_text) r.2
refused_product refuses t f z p r = absurd r

-- if the caller's type accepts the product of a text, `Integer::from_bytes` returns what the type makes of it
pub converts : {T : Type 0} (accepts : ℤ → T → Type 0) (refuses : ℤ
    → Type 0) (t : List ℕ) (z : ℤ) (r : Result T Error)
    → ProductInRange t z → ¬ (refuses z) → IfOk r (λ x. (y : ℤ) × ProductInRange t y × accepts y x)
    → IfErr r (λ e. IntegerFault refuses t e.fault) → (x : T) × (r ≡ Ok x) × accepts z x
converts accepts refuses t z (Ok x) p takes ok err =
    (x, refl, subst (λ y. accepts y x) (product_one_value t ok.0 z ok.1.product_text p.product_text) ok.2)
converts accepts refuses t z (Err e) p takes ok err =
    absurd (takes (refused_product refuses t e.fault z p err))

-- a text has the amount that `amount_of` returns for it, and is refused if `amount_of` returns `None`
pub amount_text : (t : List ℕ) (v : Amount) → amount_of t ≡ Some v → AmountText t v
amount_text = amount_of_is.derived

pub amount_refused : (t : List ℕ) → amount_of t ≡ None → IsRefused AmountText t
amount_refused = refused_by amount_of_is
