-- The sections of a text that include files.
use Rattle.std.proofs.Common.{◌≡◌, ◌<◌, ◌≤◌, ◌==◌, ◌∷◌, [], ℕ, zero, suc, List, false, arith, refl, drop}
use Rattle.std.proofs.Common.{get_or, length, ◌∙◌}
use Rattle.std.proofs.lemmas.Bool.{false_from_ne_true}
use Rattle.bstr.specs.Find.{Passes, Nowhere, NoneBefore, is_byte}
use Rattle.config_search.specs.Reads.{has_include}

-- the bytes before a place are no brackets
abbrev NoBracket : List ℕ → ℕ → Type 0
NoBracket text i = (k : ℕ) → k < i → k < length text → (get_or text k 0 == 91) ≡ false

passed_one : (b : ℕ) (rest : List ℕ) → (b == 91) ≡ false → has_include (b ∷ rest) ≡ has_include rest
passed_one b rest other = rw other refl

passed : (text : List ℕ) (i : ℕ) → NoBracket text i → has_include text ≡ has_include (drop i text)
passed text zero none = refl
passed [] (suc i) none = refl
passed (b ∷ rest) (suc i) none = passed_one b rest (none 0 (omega arith) (omega arith))
    ∙ passed rest i (λ k below within. none (suc k) (omega (arith, below)) (omega (arith, within)))

past_all : (text : List ℕ) (i : ℕ) → length text ≤ i → has_include (drop i text) ≡ false
past_all [] zero past = refl
past_all [] (suc i) past = refl
past_all (b ∷ rest) zero past = absurd (omega (arith, past))
past_all (b ∷ rest) (suc i) past = past_all rest i (omega (arith, past))

pub no_bracket : (text : List ℕ) → Nowhere (Passes (is_byte 91) text) 0 (length text) → has_include text
    ≡ false
no_bracket text none =
    passed text (length text) (λ k below within. false_from_ne_true _ (none k (omega arith) within))
    ∙ past_all text (length text) (omega arith)

pub next_bracket : (text : List ℕ) (i : ℕ) → NoneBefore (Passes (is_byte 91) text) 0 (length text) i
    → has_include text ≡ has_include (drop i text)
next_bracket text i first = passed text i (λ k below within. false_from_ne_true _
    (first.before k (omega arith) below))
