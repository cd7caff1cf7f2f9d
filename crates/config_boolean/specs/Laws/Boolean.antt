-- The laws of `Value` for booleans, from those for amounts, whose texts do not begin with a letter.
use Rattle.std.proofs.Common.{◌≡◌, ◌≢◌, refl, sym, ap, ◌∙◌, subst, arith, ◌↔◌, ◌⊎◌, inl, inr}
use Rattle.std.proofs.Common.{ℕ, zero, suc, ◌≤◌, lit≤, ℤ, pos, negsuc, Bool, true, false, cond, IsTrue}
use Rattle.std.proofs.Common.{List, [], ◌∷◌, length, get_or, map, codes}
use Rattle.std.proofs.lemmas.Bool.Decides.{nat_tests}
use Rattle.std.specs.Char.{to_ascii_lowercase}
use Rattle.config_boolean.specs.declared.boolean.Boolean.{Boolean}
use Rattle.config_text.specs.declared.value.TheConstants.{LONGEST_TEXT}
use Rattle.config_text.specs.Value.{IsAccepted, IsRefused, HasText, IsTextOf}
use Rattle.config_text.specs.Laws.Value.{IsShown, one_text_by, canonical_reads_by, Told, either_told}
use Rattle.config_text.specs.Laws.Value.{text_told}
use Rattle.config_text.specs.SameWord.{SameWord}
use Rattle.config_integer.specs.declared.amount.Amount.{Amount}
use Rattle.config_integer.specs.Amount.{AmountText}
use Rattle.config_integer.specs.Laws.Amount.{amount_one_value, amount_decided}
use Rattle.config_integer.specs.Laws.Integer.{product_first}
use Rattle.config_boolean.specs.Boolean.{Affirms, Denies, BooleanText, CanonicalBoolean, boolean_shown}
use Rattle.config_boolean.specs.Boolean.BooleanText.{affirmed, denied, counted}

-- a text that is the same word as a word in lower case begins with a byte after `9`
letter_first : (t w : List ℕ) → 97 ≤ get_or w 0 0 → SameWord t w → 58 ≤ get_or t 0 0
letter_first t [] l e = absurd (omega arith)
letter_first [] (d ∷ ds) l e = absurd (cc (e))
letter_first (c ∷ cs) (d ∷ ds) l e = lower c d l (ap (λ x. get_or x 0 0) e) where
  lower : (c d : ℕ) → 97 ≤ d → to_ascii_lowercase c ≡ to_ascii_lowercase d → 58 ≤ c
  lower c d l e = grind (arith, nat_tests)

affirms_first : (t : List ℕ) → Affirms t → 58 ≤ get_or t 0 0
affirms_first t (inl h) = letter_first t (codes "yes") (omega arith) h
affirms_first t (inr (inl h)) = letter_first t (codes "on") (omega arith) h
affirms_first t (inr (inr h)) = letter_first t (codes "true") (omega arith) h

abbrev DeniedWord : List ℕ → Type 0
DeniedWord t = SameWord t (codes "no") ⊎ SameWord t (codes "off") ⊎ SameWord t (codes "false")

denied_first : (t : List ℕ) → DeniedWord t → 58 ≤ get_or t 0 0
denied_first t (inl h) = letter_first t (codes "no") (omega arith) h
denied_first t (inr (inl h)) = letter_first t (codes "off") (omega arith) h
denied_first t (inr (inr h)) = letter_first t (codes "false") (omega arith) h

-- no text is two of these: a word for true, a word for false or the empty text, an amount text
affirms_or_counts : (t : List ℕ) (n : Amount) → Affirms t → ¬ (AmountText t n)
affirms_or_counts t n a p = omega (arith, affirms_first t a, product_first t n.0 p.product_text)

denies_or_counts : (t : List ℕ) (n : Amount) → Denies t → ¬ (AmountText t n)
denies_or_counts t n (inl e) p = omega (arith, ap (λ l. get_or l 0 0) e, product_first t n.0 p.product_text)
denies_or_counts t n (inr h) p = omega (arith, denied_first t h, product_first t n.0 p.product_text)

affirms_or_denies : (t : List ℕ) → Affirms t → ¬ (Denies t)
affirms_or_denies t a (inl e) = omega (arith, affirms_first t a, ap (λ l. get_or l 0 0) e)
affirms_or_denies t (inl h) (inr (inl k)) = grind arith
affirms_or_denies t (inl h) (inr (inr (inl k))) = grind arith
affirms_or_denies t (inl h) (inr (inr (inr k))) = grind arith
affirms_or_denies t (inr (inl h)) (inr (inl k)) = grind arith
affirms_or_denies t (inr (inl h)) (inr (inr (inl k))) = grind arith
affirms_or_denies t (inr (inl h)) (inr (inr (inr k))) = grind arith
affirms_or_denies t (inr (inr h)) (inr (inl k)) = grind arith
affirms_or_denies t (inr (inr h)) (inr (inr (inl k))) = grind arith
affirms_or_denies t (inr (inr h)) (inr (inr (inr k))) = grind arith

same_boolean : (v w : Boolean) → v.0 ≡ w.0 → v ≡ w
same_boolean v w e = ap boolean e where
  boolean : Bool → Boolean
  boolean b = record { 0 = b }

same_truth : {P : Type 0} (b d : Bool) → IsTrue b ↔ P → IsTrue d ↔ P → b ≡ d
same_truth true true p q = refl
same_truth true false p q = sym (q.1 (p.0 refl))
same_truth false true p q = p.1 (q.0 refl)
same_truth false false p q = refl

pub boolean_one_value : (t : List ℕ) (v w : Boolean) → BooleanText t v → BooleanText t w → v ≡ w
boolean_one_value t v w (affirmed a e) (affirmed b f) = same_boolean v w (e ∙ sym f)
boolean_one_value t v w (affirmed a e) (denied b f) = absurd (affirms_or_denies t a b)
boolean_one_value t v w (affirmed a e) (counted z p f) = absurd (affirms_or_counts t z a p)
boolean_one_value t v w (denied a e) (affirmed b f) = absurd (affirms_or_denies t b a)
boolean_one_value t v w (denied a e) (denied b f) = same_boolean v w (e ∙ sym f)
boolean_one_value t v w (denied a e) (counted z p f) = absurd (denies_or_counts t z a p)
boolean_one_value t v w (counted z p e) (affirmed b f) = absurd (affirms_or_counts t z b p)
boolean_one_value t v w (counted z p e) (denied b f) = absurd (denies_or_counts t z b p)
boolean_one_value t v w (counted y p e) (counted z q f) =
    let one = amount_one_value t z y q p in
    same_boolean v w (same_truth v.0 w.0 e (subst (λ x. IsTrue w.0 ↔ (x.0 ≢ pos 0)) one f))

boolean_shown_reads : (v : Boolean) → BooleanText (boolean_shown v) v
boolean_shown_reads v = shown v.0 refl where
  shown : (b : Bool) → v.0 ≡ b → BooleanText (boolean_shown v) v
  shown true e =
      affirmed (subst (λ b. Affirms (cond b (codes "true") (codes "false"))) (sym e) (inr (inr refl))) e
  shown false e =
      denied (subst (λ b. Denies (cond b (codes "true") (codes "false"))) (sym e) (inr (inr (inr refl)))) e

boolean_shown_is_canonical : (v : Boolean) → IsTextOf BooleanText CanonicalBoolean v (boolean_shown v)
boolean_shown_is_canonical v =
    record { canonical_text = canonical v.0; reads_to = boolean_shown_reads v; short = short v.0 } where
      canonical : (b : Bool) → CanonicalBoolean (cond b (codes "true") (codes "false"))
      canonical true = inl refl
      canonical false = inr refl

      short : (b : Bool) → length (cond b (codes "true") (codes "false")) ≤ LONGEST_TEXT
      short true = lit≤ tt
      short false = lit≤ tt

pub boolean_shown_is_text : (v : Boolean) → HasText BooleanText v
    → IsTextOf BooleanText CanonicalBoolean v (boolean_shown v)
boolean_shown_is_text v h = boolean_shown_is_canonical v

pub boolean_has_text : (v : Boolean) → HasText BooleanText v
boolean_has_text v = (boolean_shown v, boolean_shown_reads v)

canonical_shown : (t : List ℕ) → CanonicalBoolean t → IsShown BooleanText boolean_shown t
canonical_shown t (inl e) =
    rw e record { value = record { 0 = true }; reads_to = affirmed (inr (inr refl)) refl; same = refl }
canonical_shown t (inr e) =
    rw e record { value = record { 0 = false }; reads_to = denied (inr (inr (inr refl))) refl; same = refl }

pub boolean_canonical_reads : (t : List ℕ) → CanonicalBoolean t → IsAccepted BooleanText t
boolean_canonical_reads = canonical_reads_by canonical_shown

pub boolean_one_text : (s t : List ℕ) (v : Boolean) → CanonicalBoolean s → CanonicalBoolean t
    → BooleanText s v → BooleanText t v → s ≡ t
boolean_one_text = one_text_by boolean_one_value canonical_shown

-- the truth value of a number
abbrev pub nonzero : ℤ → Bool
nonzero (pos zero) = false
nonzero (pos (suc n)) = true
nonzero (negsuc n) = true

-- `nonzero` is true exactly if the number is not zero
pub nonzero_is : (z : ℤ) → IsTrue (nonzero z) ↔ (z ≢ pos 0)
nonzero_is (pos zero) = (λ h. absurd (cc (h)), λ h. absurd (h refl))
nonzero_is (pos (suc n)) = (λ h e. cc (e), λ h. refl)
nonzero_is (negsuc n) = (λ h e. cc (e), λ h. refl)

same_word_told : (t w : List ℕ) → Told (SameWord t w)
same_word_told t w = text_told (map to_ascii_lowercase t) (map to_ascii_lowercase w)

-- a text that is neither empty nor a word nor an amount text is not a boolean text
pub boolean_refused : (t : List ℕ) → ¬ (Affirms t) → ¬ (Denies t) → IsRefused AmountText t
    → IsRefused BooleanText t
boolean_refused t a d p v (affirmed h e) = a h
boolean_refused t a d p v (denied h e) = d h
boolean_refused t a d p v (counted z h e) = p z h

word_told : (t u v w : List ℕ) → Told (SameWord t u ⊎ SameWord t v ⊎ SameWord t w)
word_told t u v w =
    either_told (same_word_told t u) (either_told (same_word_told t v) (same_word_told t w))

pub boolean_decided : (t : List ℕ) → IsAccepted BooleanText t ⊎ IsRefused BooleanText t
boolean_decided t =
    told (word_told t (codes "yes") (codes "on") (codes "true"))
    (either_told (text_told t []) (word_told t (codes "no") (codes "off") (codes "false")))
    (amount_decided t) where
      told : Told (Affirms t) → Told (Denies t) → IsAccepted AmountText t ⊎ IsRefused AmountText t
          → IsAccepted BooleanText t ⊎ IsRefused BooleanText t
      told (inl a) d p = inl (record { 0 = true }, affirmed a refl)
      told (inr a) (inl d) p = inl (record { 0 = false }, denied d refl)
      told (inr a) (inr d) (inl p) = inl (record { 0 = nonzero p.0.0 }, counted p.0 p.1 (nonzero_is p.0.0))
      told (inr a) (inr d) (inr p) = inr (boolean_refused t a d p)
