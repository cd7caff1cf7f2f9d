-- `integer_of` computes the grammar of integers, and a text has at most one product.
use Rattle.std.proofs.Common.{◌≡◌, refl, sym, ap, ◌∙◌, subst, arith, ℕ, ℤ, ◌<◌, ◌≤◌, ◌⊎◌, inl, inr, Bool}
use Rattle.std.proofs.Common.{true, false, cond, List, [], ◌∷◌, ◌++◌, append_assoc, get_or, drop, Option}
use Rattle.std.proofs.Common.{Some, None}
use Rattle.std.proofs.lemmas.Bool.{eqb-true}
use Rattle.std.proofs.lemmas.Bool.Decides.{nat_tests}
use Rattle.std.proofs.lemmas.Int.{ints}
use Rattle.std.proofs.lemmas.Option.{none-some, same_Some}
use Rattle.std.specs.Int.{IsInRange}
use Rattle.std.specs.Option.{option_map}
use Rattle.std.specs.Prelude.{◌==◌}
use Rattle.config_text.specs.declared.errors.Fault.{Fault}
use Rattle.config_text.specs.declared.errors.Fault.TheVariants as faults
use Rattle.config_text.specs.Numerals.{IsInI64}
use Rattle.config_text.specs.Value.{IsAccepted, IsRefused}
use Rattle.config_text.specs.Laws.Value.{IsValueOf, one_value_by, decided_by}
use Rattle.config_text.specs.Laws.Numerals.{range_told}
use Rattle.config_integer.specs.declared.integer.Integer.{Integer}
use Rattle.config_integer.specs.Integer.{Magnitude, SignedText, IntegerText, product, ProductText}
use Rattle.config_integer.specs.Integer.{ProductInRange, IntegerFault}
use Rattle.config_integer.specs.Integer.SignedText.{plain, plus, minus}
use Rattle.config_integer.specs.Reading.Integer.{magnitude_of, sign_and_rest, largest, with_sign}
use Rattle.config_integer.specs.Reading.Integer.{signed_integer, integer_after, integer_of}
use Rattle.config_integer.specs.Laws.Magnitude.{magnitude_found, magnitude_derived, magnitude_first}

-- ---- signs

-- a number is in range exactly if its magnitude is at most the largest one
pub in_range_of : (b : Bool) (n : ℕ) → n ≤ largest b → IsInI64 (with_sign b n)
in_range_of true n h = record { low = omega (arith, ints); high = omega (arith, ints) }
in_range_of false n h = record { low = omega (arith, ints); high = omega (arith, ints) }

pub in_range_only : (b : Bool) (n : ℕ) → IsInI64 (with_sign b n) → n ≤ largest b
in_range_only true n r = omega (arith, ints, r.low)
in_range_only false n r = omega (arith, ints, r.high)

-- a text that begins with a digit has no sign
digit_rest : (t : List ℕ) → IsInRange 48 57 (get_or t 0 0) → sign_and_rest t ≡ (false, t)
digit_rest t r = grind (arith, nat_tests, r.0)

-- the function returns the value of each integer text
integer_found : (t : List ℕ) (v : Integer) → IntegerText t v → integer_of t ≡ Some v
integer_found t v h = signed h.number.signed where
  found : (b : Bool) (m : List ℕ) (n : ℕ) → sign_and_rest t ≡ (b, m ++ h.back) → Magnitude m n
      → v.value ≡ with_sign b n
      → integer_of t ≡ Some v
  found b m n is magnitude z =
      let small = in_range_only b n (subst IsInI64 z h.number.in_range) in
      ap integer_after is
      ∙ ap (option_map (signed_integer b))
      (magnitude_found (largest b) m h.back n v.suffix magnitude small h.unit)
      ∙ ap (λ x. Some (let w : Integer = record { value = x; suffix = v.suffix } in w)) (sym z)

  signed : SignedText h.front v.value → integer_of t ≡ Some v
  signed (plain n m z) =
      let digit = magnitude_first h.front n h.back m in
      found false h.front n (ap sign_and_rest h.parts ∙ digit_rest (h.front ++ h.back) digit) m z
  signed (plus m n e k z) = found false m n (rw (h.parts, e) refl) k z
  signed (minus m n e k z) = found true m n (rw (h.parts, e) refl) k z

-- if the function returns a value, the text is an integer text of it

mapped : {A B : Type 0} (f : A → B) (r : Option A) (v : B) → option_map f r ≡ Some v
    → (x : A) × (r ≡ Some x) × (f x ≡ v)
mapped f None v e = absurd (none-some v e)
mapped f (Some x) v e = (x, refl, same_Some _ v e)

first_byte : (t : List ℕ) (c : ℕ) → get_or t 0 0 ≡ c → 0 < c → t ≡ c ∷ drop 1 t
first_byte [] c e p = absurd (omega arith)
first_byte (d ∷ ds) c e p = ap (λ x. x ∷ ds) e

integer_derived : (t : List ℕ) (v : Integer) → integer_of t ≡ Some v → IntegerText t v
integer_derived t v e = signed (get_or t 0 0 == 45) (get_or t 0 0 == 43) refl refl e where
  derived : (b : Bool) (m front : List ℕ) → t ≡ front ++ m
      → ((l : List ℕ) (n : ℕ) → Magnitude l n → SignedText (front ++ l) (with_sign b n))
      → integer_after (b, m) ≡ Some v → IntegerText t v
  derived b m front parts is e =
      let k = mapped (signed_integer b) (magnitude_of (largest b) m) v e in
      let u = magnitude_derived (largest b) m k.0.0 k.0.1 k.1 in
      subst (IntegerText t) k.2 record {
        front = front ++ u.front;
        back = u.back;
        parts = parts ∙ ap (λ l. front ++ l) u.parts ∙ sym (append_assoc front u.front u.back);
        number = record { signed = is u.front k.0.0 u.writes; in_range = in_range_of b k.0.0 u.small };
        unit = u.unit;
      }

  signed : (b d : Bool) → (get_or t 0 0 == 45) ≡ b → (get_or t 0 0 == 43) ≡ d
      → integer_after (cond b (true, drop 1 t) (cond d (false, drop 1 t) (false, t))) ≡ Some v
      → IntegerText t v
  signed true d p q e =
      derived true (drop 1 t) (45 ∷ []) (first_byte t 45 (eqb-true _ 45 p) (omega arith))
      (λ l n m. minus l n refl m refl) e
  signed false true p q e =
      derived false (drop 1 t) (43 ∷ []) (first_byte t 43 (eqb-true _ 43 q) (omega arith))
      (λ l n m. plus l n refl m refl) e
  signed false false p q e = derived false t [] refl (λ l n m. plain n m refl) e

pub integer_of_is : IsValueOf IntegerText integer_of
integer_of_is = record { found = integer_found; derived = integer_derived }

pub integer_one_value : (t : List ℕ) (v w : Integer) → IntegerText t v → IntegerText t w → v ≡ w
integer_one_value = one_value_by integer_of_is

pub integer_decided : (t : List ℕ) → IsAccepted IntegerText t ⊎ IsRefused IntegerText t
integer_decided = decided_by integer_of_is

-- a text has at most one product, and it is decided whether it has one in range
pub product_one_value : (t : List ℕ) (y z : ℤ) → ProductText t y → ProductText t z → y ≡ z
product_one_value t y z p q =
    p.number ∙ ap product (integer_one_value t p.integer q.integer p.text q.text) ∙ sym q.number

-- an integer text has its product
pub product_of : (t : List ℕ) (v : Integer) → IntegerText t v → ProductText t (product v)
product_of t v text = record { integer = v; text = text; number = refl }

pub product_told : (t : List ℕ) → ((z : ℤ) × ProductInRange t z) ⊎ ((z : ℤ) → ¬ (ProductInRange t z))
product_told t =
    elim (integer_decided t) [
      | inl h ↦
          let p = product_of t h.0 h.1 in
          elim (range_told (product h.0)) [
            | inl r ↦ inl (product h.0, record { product_text = p; in_range = r })
            | inr r ↦ inr (λ z k.
                r (subst IsInI64 (product_one_value t z (product h.0) k.product_text p) k.in_range))
          ]
      | inr h ↦ inr (λ z k. h k.product_text.integer k.product_text.text)
    ]

-- the first byte of a text with a product is one of `+` to `9`
pub product_first : (t : List ℕ) (z : ℤ) → ProductText t z → IsInRange 43 57 (get_or t 0 0)
product_first t z p =
    subst (λ l. IsInRange 43 57 (get_or l 0 0)) (sym p.text.parts) (first p.text.number.signed) where
      first : SignedText p.text.front p.integer.value
          → IsInRange 43 57 (get_or (p.text.front ++ p.text.back) 0 0)
      first (plain n m e) =
          let r = magnitude_first p.text.front n p.text.back m in (omega (arith, r.0), omega (arith, r.1))
      first (plus m n e k f) = rw e (omega arith, omega arith)
      first (minus m n e k f) = rw e (omega arith, omega arith)

-- if the caller's type refuses no product in range, a text with a fault has no product in range
pub refusal_tells : (refuses : ℤ → Type 0) → ((z : ℤ) → IsInI64 z → ¬ (refuses z)) → (t : List ℕ) (f : Fault)
    → IntegerFault refuses t f
    → (z : ℤ) → ¬ (ProductInRange t z)
refusal_tells refuses never t faults.Integer r z p = r p.product_text.integer p.product_text.text
refusal_tells refuses never t faults.Overflow r z p =
    r.2 (subst IsInI64 (product_one_value t z r.0 p.product_text r.1) p.in_range)
refusal_tells refuses never t faults.OutOfRange r z p = never r.0 r.1.in_range r.2
refusal_tells refuses never t _ r z p = r

-- a text has at most one fault
pub one_refusal : (refuses : ℤ → Type 0) (t : List ℕ) (f g : Fault) → IntegerFault refuses t f
    → IntegerFault refuses t g → f ≡ g
one_refusal refuses t faults.Integer faults.Integer r s = refl
one_refusal refuses t faults.Integer faults.Overflow r s = absurd (r s.1.integer s.1.text)
one_refusal refuses t faults.Integer faults.OutOfRange r s =
    absurd (r s.1.product_text.integer s.1.product_text.text)
one_refusal refuses t faults.Integer _ r s = absurd s
one_refusal refuses t faults.Overflow faults.Integer r s = absurd (s r.1.integer r.1.text)
one_refusal refuses t faults.Overflow faults.Overflow r s = refl
one_refusal refuses t faults.Overflow faults.OutOfRange r s =
    absurd (r.2 (subst IsInI64 (product_one_value t s.0 r.0 s.1.product_text r.1) s.1.in_range))
one_refusal refuses t faults.Overflow _ r s = absurd s
one_refusal refuses t faults.OutOfRange faults.Integer r s =
    absurd (s r.1.product_text.integer r.1.product_text.text)
one_refusal refuses t faults.OutOfRange faults.Overflow r s =
    absurd (s.2 (subst IsInI64 (product_one_value t r.0 s.0 r.1.product_text s.1) r.1.in_range))
one_refusal refuses t faults.OutOfRange faults.OutOfRange r s = refl
one_refusal refuses t faults.OutOfRange _ r s = absurd s
one_refusal refuses t _ g r s = absurd r
