-- The laws of `Value` for amounts, from those of products and of shown numbers.
use Rattle.std.proofs.Common.{◌≡◌, ℕ, ℤ, ◌⊎◌, inl, inr, List, [], None, refl, sym, ap, arith, append-nil}
use Rattle.std.proofs.lemmas.Int.{ints}
use Rattle.config_integer.specs.declared.amount.Amount.{Amount}
use Rattle.config_text.specs.declared.errors.Fault.{Fault}
use Rattle.config_text.specs.Value.{IsAccepted, IsRefused, HasText, IsTextOf}
use Rattle.config_text.specs.Laws.Value.{IsShown, one_text_by, canonical_reads_by}
use Rattle.config_text.specs.Numerals.{IsInI64}
use Rattle.config_integer.specs.Integer.{NumberText, ProductInRange}
use Rattle.config_integer.specs.Laws.Integer.{product_one_value, product_told, refusal_tells}
use Rattle.config_integer.specs.Laws.IntegerShown.{number_shown, shown_number}
use Rattle.config_integer.specs.Amount.{AmountText, AmountFault, CanonicalAmount, amount_shown}

pub amount_one_value : (t : List ℕ) (v w : Amount) → AmountText t v → AmountText t w → v ≡ w
amount_one_value t v w p q = ap amount_of (product_one_value t v.0 w.0 p.product_text q.product_text) where
  amount_of : ℤ → Amount
  amount_of z = record { 0 = z }

pub amount_decided : (t : List ℕ) → IsAccepted AmountText t ⊎ IsRefused AmountText t
amount_decided t =
    elim (product_told t) [
      | inl h ↦ inl (record { 0 = h.0 }, h.1)
      | inr h ↦ inr (λ v p. h v.0 p)
    ]

pub amount_refused : (t : List ℕ) (f : Fault) → AmountFault t f → IsRefused AmountText t
amount_refused t f r v p = refusal_tells (λ _. ⊥) (λ z h k. k) t f r v.0 p

-- a number text is an amount text of its number
number_amount : (t : List ℕ) (z : ℤ) → NumberText t z → ProductInRange t z
number_amount t z n = record {
  product_text = record {
    integer = record { value = z; suffix = None };
    text = record { front = t; back = []; parts = sym (append-nil t); number = n; unit = refl };
    number = omega (arith, ints);
  };
  in_range = n.in_range;
}

canonical_shown : (t : List ℕ) → CanonicalAmount t → IsShown AmountText amount_shown t
canonical_shown t h =
    let n = number_shown t h in
    record { value = record { 0 = n.number }; reads_to = number_amount t n.number n.text; same = n.shown }

pub amount_canonical_reads : (t : List ℕ) → CanonicalAmount t → IsAccepted AmountText t
amount_canonical_reads = canonical_reads_by canonical_shown

pub amount_one_text : (s t : List ℕ) (v : Amount) → CanonicalAmount s → CanonicalAmount t → AmountText s v
    → AmountText t v → s ≡ t
amount_one_text = one_text_by amount_one_value canonical_shown

amount_shown_in_range : (v : Amount) → IsInI64 v.0 → IsTextOf AmountText CanonicalAmount v (amount_shown v)
amount_shown_in_range v r =
    let n = shown_number v.0 r in
    record {
      canonical_text = n.canonical_number;
      reads_to = number_amount (amount_shown v) v.0 n.text;
      short = omega (arith, n.short);
    }

pub amount_shown_is_text : (v : Amount) → HasText AmountText v
    → IsTextOf AmountText CanonicalAmount v (amount_shown v)
amount_shown_is_text v h = amount_shown_in_range v h.1.in_range

pub amount_has_text : (v : Amount) → IsInI64 v.0 → HasText AmountText v
amount_has_text v r = (amount_shown v, (amount_shown_in_range v r).reads_to)
