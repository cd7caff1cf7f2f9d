-- Lemmas for the opposites of attributes: which bits the code finds, and that opposites are mutual.
use Rattle.std.proofs.Common.{◌≡◌, ◌≢◌, ℕ, ◌^◌, ◌<◌, ◌⊎◌, ◌↔◌, inl, inr, ◌&&◌, Bool, true, false, Option, None}
use Rattle.std.proofs.Common.{Some, List, [], ◌∷◌, map, refl, sym, ap, ◌∙◌, arith, ◌==◌, bit_and, max}
use Rattle.std.specs.Prelude.{if◌then◌else◌}
use Rattle.std.specs.List.{list_all, list_any}
use Rattle.std.proofs.lemmas.Bool.{and_parts, cases_Bool, true≢false}
use Rattle.std.proofs.lemmas.Bool.Decides.{Decides-eqb, eqb_tells}
use Rattle.std.proofs.lemmas.Nat.Bits.{bit_at-lt, bit_at_or, bit_at-zero, bit_at-pow_same, bit_at-pow_other}
use Rattle.std.specs.Int.{bit_at}
use Rattle.std.specs.Int.RustNames.{bit_or}
use Rattle.config_word.specs.declared.attribute.Attribute.{Attribute}
use Rattle.config_word.specs.Attribute.{AreOpposite, AttributeRow, HasOpposites, attributes, bit_of, opposite_of}
use Rattle.config_word.specs.Laws.Attribute.{bit_test}
use Rattle.config_word.specs.Reading.Attribute.{opposite_rows, opposites_from, value_of}
use Rattle.config_text.specs.OneOf.{OneOf}
use Rattle.config_text.specs.Laws.OneOf.{all-one, OneOf-from_map}

pub iff_trans : {A B C : Type 0} → A ↔ B → B ↔ C → A ↔ C
iff_trans (f, g) (h, k) = (λ a. h (f a), λ c. g (k c))

pub either : {A B C D : Type 0} → A ↔ C → B ↔ D → (A ⊎ B) ↔ (C ⊎ D)
either (f, g) (h, k) = (
  λ s. elim s [ inl a ↦ inl (f a) | inr b ↦ inr (h b) ],
  λ s. elim s [ inl c ↦ inl (g c) | inr d ↦ inr (k d) ],
)

-- a bit of two sets that are united is set in one of them
pub or_bit : (a b i : ℕ) → (bit_at (bit_or a b) i ≡ 1) ↔ ((bit_at a i ≡ 1) ⊎ (bit_at b i ≡ 1))
or_bit a b i = rw bit_at_or (one_of (bit_at a i) (bit_at b i) (bit_at-lt a i) (bit_at-lt b i)) where
  one_of : (x y : ℕ) → x < 2 → y < 2 → (max x y ≡ 1) ↔ ((x ≡ 1) ⊎ (y ≡ 1))
  one_of x y h k = (λ e. grind arith, λ e. grind arith)

-- ---- which bits the code finds

-- the bit and the opposite of a row
abbrev pair_of : AttributeRow → ℕ × Option ℕ
pair_of row = (bit_of row, opposite_of row)

-- the bits and the opposites of rows
abbrev pairs_of : List AttributeRow → List (ℕ × Option ℕ)
pairs_of rows = map pair_of rows

-- the values of rows and of their opposites
abbrev values_of : List AttributeRow → List (ℕ × ℕ)
values_of rows = map (λ row. (2 ^ bit_of row, value_of (opposite_of row))) rows

-- the bit is the opposite of a set bit by one of the rows
abbrev IsFound : ℕ → List AttributeRow → ℕ → Type 0
IsFound bits rows i = (other : ℕ) × OneOf (pairs_of rows) (other, Some i) × (bit_at bits other ≡ 1)

-- the bit is the opposite of the row's bit, which is set
abbrev IsAdded : ℕ → AttributeRow → ℕ → Type 0
IsAdded bits row i = (bit_at bits row.1 ≡ 1) × (row.4 ≡ Some i)

-- which bit is set in the value of a bit
value_bit : (o : Option ℕ) (i : ℕ) → (bit_at (value_of o) i ≡ 1) ↔ (o ≡ Some i)
value_bit None i = (λ h. absurd (omega (arith, h, bit_at-zero i)), λ h. absurd (cc))
value_bit (Some k) i = (λ h. told h (eqb_tells i k), λ e. same (some_is e)) where
  told : bit_at (2 ^ k) i ≡ 1 → ((i == k ≡ true) × (i ≡ k)) ⊎ ((i == k ≡ false) × (i ≢ k)) → Some k ≡ Some i
  told h (inl e) = ap Some (sym e.1)
  told h (inr n) = absurd (omega (arith, h, bit_at-pow_other k i n.1))

  some_is : Some k ≡ Some i → k ≡ i
  some_is e = cc

  same : k ≡ i → bit_at (2 ^ k) i ≡ 1
  same e = rw (← e) (bit_at-pow_same k)

-- what one row adds
added_bit : (bits found : ℕ) (row : AttributeRow) (i : ℕ)
    → (bit_at (if bit_and bits (2 ^ row.1) == 2 ^ row.1 then bit_or found (value_of row.4) else found) i ≡ 1)
    ↔ ((bit_at found i ≡ 1) ⊎ IsAdded bits row i)
added_bit bits found row i =
    rw (bit_test bits row.1) (elim (cases_Bool (bit_at bits row.1 == 1)) [
      | inl e ↦ rw e (iff_trans (or_bit found (value_of row.4) i) (either (λ h. h, λ h. h)
          (λ h. ((Decides-eqb (bit_at bits row.1) 1).0 e, (value_bit row.4 i).0 h), λ h. (value_bit row.4 i).1 h.1)))
      | inr e ↦ rw e (
        inl,
        λ s. elim s [
          | inl h ↦ h
          | inr h ↦ absurd (true≢false (sym ((Decides-eqb (bit_at bits row.1) 1).1 h.0) ∙ e))
        ],
      )
    ])

-- what is found by one more row
found_more : (bits : ℕ) (row : AttributeRow) (rows : List AttributeRow) (i : ℕ) (P : Type 0)
    → ((P ⊎ IsAdded bits row i) ⊎ IsFound bits rows i) ↔ (P ⊎ IsFound bits (row ∷ rows) i)
found_more bits row rows i P = (to, from) where
  to : (P ⊎ IsAdded bits row i) ⊎ IsFound bits rows i → P ⊎ IsFound bits (row ∷ rows) i
  to (inl (inl p)) = inl p
  to (inl (inr (h, e))) = inr (row.1, inl (ap (λ o. (row.1, o)) (sym e)), h)
  to (inr (other, o, h)) = inr (other, inr o, h)

  from : P ⊎ IsFound bits (row ∷ rows) i → (P ⊎ IsAdded bits row i) ⊎ IsFound bits rows i
  from (inl p) = inl (inl p)
  from (inr (other, inl e, h)) =
      inl (inr (rw (ap (λ (p : ℕ × Option ℕ). p.0) e) at h, sym (ap (λ (p : ℕ × Option ℕ). p.1) e)))
  from (inr (other, inr o, h)) = inr (other, o, h)

-- what the code finds is set exactly if it was found before, or is an opposite by one of the rows
found_bit : (bits : ℕ) (rows : List AttributeRow) (found i : ℕ)
    → (bit_at (opposites_from bits found (values_of rows)) i ≡ 1) ↔ ((bit_at found i ≡ 1) ⊎ IsFound bits rows i)
found_bit bits [] found i = (inl, λ s. elim s [ inl h ↦ h | inr (other, o, h) ↦ absurd o ])
found_bit bits (row ∷ rows) found i =
    iff_trans (found_bit bits rows _ i)
    (iff_trans (either (added_bit bits found row i) (λ h. h, λ h. h))
    (found_more bits row rows i (bit_at found i ≡ 1)))

-- ---- opposites are mutual

-- two pairs of a bit and an opposite are the same
abbrev IsSame : ℕ × Option ℕ → ℕ × Option ℕ → Type 0
IsSame one other = one ≡ other

-- whether there is a bit, and it is this one
abbrev is_some_bit : Option ℕ → ℕ → Bool
is_some_bit None bit = false
is_some_bit (Some k) bit = k == bit

-- whether a row has this bit and this opposite
abbrev is_pair : ℕ → ℕ → AttributeRow → Bool
is_pair bit other row = (row.1 == bit) && is_some_bit row.4 other

-- a row with a bit and an opposite
any_pair : (bit other : ℕ) (rows : List AttributeRow) → list_any (is_pair bit other) rows ≡ true
    → OneOf (pairs_of rows) (bit, Some other)
any_pair bit other [] h = absurd (cc)
any_pair bit other (row ∷ rows) h =
    elim (cases_Bool (is_pair bit other row)) [
      | inl e ↦ (let parts = and_parts (row.1 == bit) (is_some_bit row.4 other) e in
          inl (same (row.1) (row.4) ((Decides-eqb row.1 bit).0 parts.0) parts.1))
      | inr e ↦ inr (any_pair bit other rows (rw e at h))
    ] where
      same : (k : ℕ) (o : Option ℕ) → k ≡ bit → is_some_bit o other ≡ true → IsSame (bit, Some other) (k, o)
      same k None e t = absurd (cc)
      same k (Some m) e t = let f = (Decides-eqb m other).0 t in cc

-- whether some row has the pair the other way round, if there is a pair
abbrev is_mutual : ℕ → Option ℕ → Bool
is_mutual bit None = true
is_mutual bit (Some other) = list_any (is_pair other bit) attributes

all_mutual : list_all (λ (row : AttributeRow). is_mutual row.1 row.4) attributes ≡ true
unfolding attributes
all_mutual = refl

pub mutual_opposites : (bit other : ℕ) → AreOpposite bit other → AreOpposite other bit
mutual_opposites bit other h =
    let r = OneOf-from_map pair_of attributes (bit, Some other) h in
    let test = all-one (λ (row : AttributeRow). is_mutual row.1 row.4) attributes r.0 all_mutual r.1 in
    any_pair other bit attributes (ap (λ (pair : ℕ × Option ℕ). is_mutual pair.0 pair.1) r.2 ∙ test)

-- what the code finds are the opposites
pub has_opposites : (bits : ℕ) (set : Attribute) → set.0 ≡ opposites_from bits 0 opposite_rows
    → HasOpposites bits set
has_opposites bits set e = λ i. rw e (to i, from i) where
  to : (i : ℕ) → bit_at (opposites_from bits 0 opposite_rows) i ≡ 1
      → (other : ℕ) × AreOpposite i other × (bit_at bits other ≡ 1)
  to i h = elim ((found_bit bits attributes 0 i).0 h) [
    | inl z ↦ absurd (omega (arith, z, bit_at-zero i))
    | inr (other, o, s) ↦ (other, mutual_opposites other i o, s)
  ]

  from : (i : ℕ) → (other : ℕ) × AreOpposite i other × (bit_at bits other ≡ 1)
      → bit_at (opposites_from bits 0 opposite_rows) i ≡ 1
  from i (other, o, s) = (found_bit bits attributes 0 i).1 (inr (other, mutual_opposites i other o, s))
