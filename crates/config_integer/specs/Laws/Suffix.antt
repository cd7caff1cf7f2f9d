-- The laws of `Value` for suffixes.
use Rattle.std.proofs.Common.{◌≡◌, ℕ, ◌⊎◌, inl, inr, Bool, true, false, cond, List, [], ◌∷◌, Some, None, refl}
use Rattle.std.proofs.Common.{ap, subst, codes, arith, lit≤}
use Rattle.std.specs.Prelude.{◌==◌, ◌||◌}
use Rattle.std.proofs.lemmas.Bool.Decides.{nat_tests}
use Rattle.std.proofs.lemmas.Option.{none-some, same_Some}
use Rattle.config_integer.specs.declared.suffix.Suffix.{Suffix}
use Rattle.config_integer.specs.declared.suffix.Suffix.TheVariants.{Kibi, Mebi, Gibi}
use Rattle.config_text.specs.Value.{IsAccepted, IsRefused, HasText, IsTextOf}
use Rattle.config_text.specs.Laws.Value.{IsValueOf, text_told, Told, either_told}
use Rattle.config_text.specs.OneOf.{OneOf}
use Rattle.config_text.specs.Laws.OneOf.{decided_among}
use Rattle.config_integer.specs.Suffix.{SuffixText, CanonicalSuffix, suffix_shown}
use Rattle.config_integer.specs.Reading.Integer.{unit_of, suffix_of}

pub suffix_one_value : (t : List ℕ) (v w : Suffix) → SuffixText t v → SuffixText t w → v ≡ w
suffix_one_value t Kibi Kibi p q = refl
suffix_one_value t Mebi Mebi p q = refl
suffix_one_value t Gibi Gibi p q = refl
suffix_one_value t v w p q = grind arith

pub suffix_one_text : (s t : List ℕ) (v : Suffix) → CanonicalSuffix s → CanonicalSuffix t → SuffixText s v
    → SuffixText t v → s ≡ t
suffix_one_text s t Kibi p q r u = grind arith
suffix_one_text s t Mebi p q r u = grind arith
suffix_one_text s t Gibi p q r u = grind arith

pub suffix_canonical_reads : (t : List ℕ) → CanonicalSuffix t → IsAccepted SuffixText t
suffix_canonical_reads t (inl p) = (Kibi, inl p)
suffix_canonical_reads t (inr (inl p)) = (Mebi, inl p)
suffix_canonical_reads t (inr (inr p)) = (Gibi, inl p)

pub suffix_shown_is_text : (v : Suffix) → HasText SuffixText v
    → IsTextOf SuffixText CanonicalSuffix v (suffix_shown v)
suffix_shown_is_text Kibi h = record { canonical_text = inl refl; reads_to = inl refl; short = lit≤ tt }
suffix_shown_is_text Mebi h = record { canonical_text = inr (inl refl); reads_to = inl refl; short = lit≤ tt }
suffix_shown_is_text Gibi h = record { canonical_text = inr (inr refl); reads_to = inl refl; short = lit≤ tt }

suffixes : List Suffix
suffixes = Kibi ∷ Mebi ∷ Gibi ∷ []

each_suffix : (v : Suffix) → OneOf suffixes v
unfolding suffixes
each_suffix Kibi = inl refl
each_suffix Mebi = inr (inl refl)
each_suffix Gibi = inr (inr (inl refl))

suffix_told : (t : List ℕ) (v : Suffix) → Told (SuffixText t v)
suffix_told t Kibi = either_told (text_told t (codes "k")) (text_told t (codes "K"))
suffix_told t Mebi = either_told (text_told t (codes "m")) (text_told t (codes "M"))
suffix_told t Gibi = either_told (text_told t (codes "g")) (text_told t (codes "G"))

pub suffix_decided : (t : List ℕ) → IsAccepted SuffixText t ⊎ IsRefused SuffixText t
suffix_decided t = decided_among SuffixText suffixes each_suffix t (suffix_told t)

pub suffix_has_text : (v : Suffix) → HasText SuffixText v
suffix_has_text v = (suffix_shown v, (suffix_shown_is v)) where
  suffix_shown_is : (v : Suffix) → SuffixText (suffix_shown v) v
  suffix_shown_is Kibi = inl refl
  suffix_shown_is Mebi = inl refl
  suffix_shown_is Gibi = inl refl

-- `suffix_of` computes the grammar of suffixes
suffix_found : (t : List ℕ) (v : Suffix) → SuffixText t v → suffix_of t ≡ Some v
unfolding suffix_of
suffix_found t Kibi (inl e) = rw e refl
suffix_found t Kibi (inr e) = rw e refl
suffix_found t Mebi (inl e) = rw e refl
suffix_found t Mebi (inr e) = rw e refl
suffix_found t Gibi (inl e) = rw e refl
suffix_found t Gibi (inr e) = rw e refl

unit_derived : (c : ℕ) (v : Suffix) → unit_of c ≡ Some v → SuffixText (c ∷ []) v
unit_derived c v e =
    told (c == 107 || c == 75) (c == 109 || c == 77) (c == 103 || c == 71) refl refl refl e where
      one_of : (x y : ℕ) → (c == x || c == y) ≡ true → (c ∷ [] ≡ x ∷ []) ⊎ (c ∷ [] ≡ y ∷ [])
      one_of x y h =
          elim (either x y h) [ inl e ↦ inl (ap (λ n. n ∷ []) e) | inr e ↦ inr (ap (λ n. n ∷ []) e) ] where
            either : (x y : ℕ) → (c == x || c == y) ≡ true → (c ≡ x) ⊎ (c ≡ y)
            either x y h = grind (arith, nat_tests)

      told : (k m g : Bool) → (c == 107 || c == 75) ≡ k → (c == 109 || c == 77) ≡ m
          → (c == 103 || c == 71) ≡ g
          → cond k (Some Kibi) (cond m (Some Mebi) (cond g (Some Gibi) None)) ≡ Some v → SuffixText (c ∷ []) v
      told true m g p q r e = subst (SuffixText (c ∷ [])) (same_Some _ v e) (one_of 107 75 p)
      told false true g p q r e = subst (SuffixText (c ∷ [])) (same_Some _ v e) (one_of 109 77 q)
      told false false true p q r e = subst (SuffixText (c ∷ [])) (same_Some _ v e) (one_of 103 71 r)
      told false false false p q r e = absurd (none-some v e)

suffix_derived : (t : List ℕ) (v : Suffix) → suffix_of t ≡ Some v → SuffixText t v
unfolding suffix_of
suffix_derived [] v e = absurd (none-some v e)
suffix_derived (c ∷ []) v e = unit_derived c v e
suffix_derived (c ∷ d ∷ cs) v e = absurd (none-some v e)

pub suffix_of_is : IsValueOf SuffixText suffix_of
suffix_of_is = record { found = suffix_found; derived = suffix_derived }
