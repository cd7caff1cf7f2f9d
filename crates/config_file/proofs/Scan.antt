-- The scan of a text, step by step, and what is left of the text where the scan stops.
use Rattle.std.proofs.Common.{◌≡◌, ℕ, zero, suc, ◌≤◌, List, [], ◌∷◌, ◌++◌, Option, Some, None, length, refl}
use Rattle.std.proofs.Common.{sym, ap, ◌∙◌, arith}
use Rattle.std.proofs.lemmas.List.{append_assoc, length-append}

-- a step passes the first bytes of a text, if it goes on there
abbrev pub Step : Type 0 → Type 0
Step S = S → List ℕ → Option (S × List ℕ)

abbrev after_step : {S : Type 0} → (S → List ℕ → S × List ℕ) → S → List ℕ → Option (S × List ℕ) → S × List ℕ
after_step more s text None = (s, text)
after_step more s text (Some p) = more p.0 p.1

-- the state, and what is left, after n steps or fewer if the scan stops before
abbrev pub stop : {S : Type 0} → Step S → ℕ → S → List ℕ → S × List ℕ
stop step zero s text = (s, text)
stop step (suc n) s text = after_step (stop step n) s text (step s text)

-- the scan of these bytes goes on piece by piece, whatever follows them, up to these last bytes
pub data Scans {S : Type 0} (step : Step S) : S → List ℕ → S → List ℕ → Type 0 where
  ends : {s : S} {at : List ℕ} → Scans step s at s at
  goes : {s t u : S} {b : ℕ} {raw at : List ℕ} (piece : List ℕ) → Scans step t raw u at
      → ((rest : List ℕ) → step s (b ∷ piece ++ rest) ≡ Some (t, rest))
      → Scans step s (b ∷ piece ++ raw) u at

pub before_stop : {S : Type 0} {step : Step S} {s t : S} {raw at : List ℕ} → Scans step s raw t at
    → (front : List ℕ) × (raw ≡ front ++ at)
before_stop ends = ([], refl)
before_stop (goes {b = b} {at = at} piece more on) =
    let (front, e) = before_stop more in
    (b ∷ piece ++ front, ap (λ x. b ∷ piece ++ x) e ∙ ap (◌∷◌ b) (sym (append_assoc piece front at)))

stops_at_once : {S : Type 0} (step : Step S) (n : ℕ) (s : S) (text : List ℕ) → step s text ≡ None
    → stop step n s text ≡ (s, text)
stops_at_once step zero s text none = refl
stops_at_once step (suc n) s text none = ap (after_step (stop step n) s text) none

pub stops_after : {S : Type 0} {step : Step S} {s t : S} {raw at : List ℕ} → Scans step s raw t at
    → (rest : List ℕ) (n : ℕ) → length raw ≤ n → step t (at ++ rest) ≡ None
    → stop step n s (raw ++ rest) ≡ (t, at ++ rest)
stops_after {step = step} (ends {s = s} {at = at}) rest n room none = stops_at_once step n s (at ++ rest) none
stops_after (goes piece more on) rest zero room none = absurd (omega arith)
stops_after {step = step} (goes {s = s} {b = b} {raw = raw} piece more on) rest (suc n) room none =
    ap (λ t. stop step (suc n) s (b ∷ t)) (append_assoc piece raw rest)
    ∙ ap (after_step (stop step n) s (b ∷ piece ++ (raw ++ rest))) (on (raw ++ rest))
    ∙ stops_after more rest n (omega (arith, length-append piece raw)) none

-- the scan of a text stops after bytes in whose scan each step goes on, if none goes on there
pub stops_within : {S : Type 0} {step : Step S} {s t : S} {text raw : List ℕ} (rest : List ℕ)
    → text ≡ raw ++ rest → Scans step s raw t [] → step t rest ≡ None
    → stop step (length text) s text ≡ (t, rest)
stops_within {raw = raw} rest joined scans none =
    rw joined (stops_after scans rest (length (raw ++ rest)) (omega (arith, length-append raw rest)) none)
