-- What tests of variables tell of them: each test is of a value that may be missing.
use Rattle.std.proofs.Common.{◌≡◌, ◌↔◌, ◌++◌, ℕ, ◌+◌, ◌<◌, List, Option, None, Some, IsTrue, Bool, true}
use Rattle.std.proofs.Common.{false, eqb, length, take, drop, option_copied, arith, sym, ap, ◌∙◌}
use Rattle.std.proofs.Common.{length-append, length-drop, length-take-le, ext_get_or, get_or-take}
use Rattle.std.proofs.Common.{get_or-drop, [], ◌∷◌, inl, inr}
use Rattle.std.specs.Borrow.{Bor}
use Rattle.std.specs.List.{ends_with}
use Rattle.std.specs.Option.{IsSomeAnd}
use Rattle.std.proofs.lemmas.List.{get_or_append_left, get_or-append-add}
use Rattle.std.proofs.lemmas.Bool.Decides.{Decides-eqb}
use Rattle.std.proofs.lemmas.Slice.Eq.{ends_is}
use Rattle.bstr.specs.Text.{Contains}
use Rattle.bstr.specs.Find.{OccursAt}
use Rattle.config_color.specs.Laws.Split.{three_parts}
use Rattle.config_color.specs.declared.depth.Depth.{Depth}
use Rattle.config_color.specs.Terminal.{DecidesFirst, EndsIn, HasWord}

-- a variable that is not set passes no test
pub none_fails : (P : List ℕ → Type 0) (variable : Option (Bor (List ℕ))) → variable ≡ None
    → (IsTrue false) ↔ (IsSomeAnd (option_copied variable) P)
none_fails P variable e = (λ h. absurd (cc), λ h. absurd (rw e at h))

-- a variable that is set passes a test if its value does
pub some_passes : (P : List ℕ → Type 0) (variable : Option (Bor (List ℕ))) (value : Bor (List ℕ))
    → variable ≡ Some value → (r : Bool) → (IsTrue r) ↔ (P value.now)
    → (IsTrue r) ↔ (IsSomeAnd (option_copied variable) P)
some_passes P variable value e r h = rw e h

-- what `ends_with` tells
pub ends_told : (text word : List ℕ) (r : Bool) → r ≡ ends_with eqb text word
    → (IsTrue r) ↔ (EndsIn word text)
ends_told text word r e =
    let is = ends_is Decides-eqb text word r e in (λ h. (_, is.0 h), λ h. is.1 h.0 h.1)

-- a text, cut where a word occurs in it
cut_at : (text word : List ℕ) (k : ℕ) → OccursAt text word k
    → text ≡ take k text ++ word ++ drop (k + length word) text
cut_at text word k h =
    let fits = h.fits in
    let whole : length (take (length word) (drop k text)) ≡ length word =
    length-take-le (length word) (drop k text) (omega (arith, length-drop k text)) in
    let part : take (length word) (drop k text) ≡ word =
    ext_get_or 0 _ word whole (λ j less. get_or-take (length word) _ j 0 (omega arith)
    ∙ get_or-drop k text j 0 ∙ h.reads j (omega arith)) in
    three_parts text k (length word) ∙ ap (λ w. take k text ++ w ++ drop (k + length word) text) part

-- what `contains_str` tells
pub contains_told : (text word : List ℕ) (r : Bool) → (IsTrue r) ↔ (Contains text word)
    → (IsTrue r) ↔ (HasWord word text)
contains_told text word r h = (λ yes. split (h.0 yes), λ has. h.1 (joined has)) where
  split : Contains text word → HasWord word text
  split at = (
    take at.0 text,
    drop (at.0 + length word) text,
    cut_at text word at.0 at.1,
  )

  reads : (front back : List ℕ) → OccursAt (front ++ word ++ back) word (length front)
  reads front back =
      record {
        fits = simp length-append (omega arith);
        reads = λ j less.
            let within : length front + j < length (front ++ word) = simp length-append (omega arith) in
            get_or_append_left (front ++ word) back 0 (length front + j) within
            ∙ get_or-append-add front word j 0;
      }

  joined : HasWord word text → Contains text word
  joined has = (length has.0, rw has.2 (reads has.0 has.1))

-- a test that fails refutes what it tests
pub refuted : (P : Type 0) (r : Bool) → (IsTrue r) ↔ P → r ≡ false → ¬ P
refuted P r told fails holds = let yes = told.1 holds in absurd (cc)

-- a flag that is true is not false
pub set_flag : (flag : Bool) → flag ≡ true → ¬ (flag ≡ false)
set_flag flag on off = absurd (cc)

-- the first rule that applies decides one thing
pub one_decision : (rules : List (Type 0 × Option Depth)) (d e : Option Depth) → DecidesFirst rules d
    → DecidesFirst rules e → d ≡ e
one_decision [] d e p q = absurd p
one_decision (rule ∷ rules) d e (inl p) (inl q) = p.1 ∙ sym q.1
one_decision (rule ∷ rules) d e (inl p) (inr q) = absurd (q.0 p.0)
one_decision (rule ∷ rules) d e (inr p) (inl q) = absurd (p.0 q.0)
one_decision (rule ∷ rules) d e (inr p) (inr q) = one_decision rules d e p.1 q.1
