-- Texts between colons, one after the other.
use Rattle.std.proofs.Common.{◌≡◌, ◌∙◌, ◌+◌, ◌-◌, ◌<◌, ◌≤◌, ℕ, Bool, List, None, Some, [], ◌∷◌, ◌++◌, append-nil, append_assoc, ap, arith, drop, get_or, inl, inr, length, refl, suc, sym, take}
use Rattle.std.specs.List.{prefix_len}
use Rattle.std.proofs.lemmas.Bool.Decides.{eqb_tells}
use Rattle.std.proofs.lemmas.Grind.{common_steps}
use Rattle.config_search.specs.System.{System}
use Rattle.config_search.specs.Search.{ceiling, ceilings_in, ceilings_left, counts, is_no_colon}

-- what a text after a part comes to, which begins with a colon
abbrev behind : System → Bool → List ℕ → List (List ℕ)
behind system resolves [] = []
behind system resolves (b ∷ rest) = ceilings_in system resolves [] rest

-- this part, and what comes after it
abbrev part_and : System → Bool → List ℕ → List ℕ → List (List ℕ)
part_and system resolves part rest =
    ceiling system (counts resolves part) part ∷ behind system (counts resolves part) rest

-- the first part of a text, of which these bytes are read already
pub first_part : (system : System) (resolves : Bool) (front text : List ℕ) → ceilings_in system resolves front text
    ≡ part_and system resolves (front ++ take (prefix_len is_no_colon text) text) (drop (prefix_len is_no_colon text) text)
first_part system resolves front [] = rw (append-nil front) refl
first_part system resolves front (b ∷ rest) = elim (eqb_tells b 58) [
  | inl colon ↦ rw (colon.0, append-nil front) refl
  | inr other ↦
      let n = prefix_len is_no_colon rest in
      let one : 1 + n ≡ suc n = omega arith in
      rw (other.0, one) (first_part system resolves (front ++ b ∷ []) rest
      ∙ ap (λ (part : List ℕ). part_and system resolves part (drop n rest)) (append_assoc front (b ∷ []) (take n rest)))
]

-- a text that is one part alone
pub last_part : (system : System) (resolves : Bool) (text part rest : List ℕ)
    → part ≡ take (prefix_len is_no_colon text) text → rest ≡ drop (prefix_len is_no_colon text) text → rest ≡ []
    → ceilings_in system resolves [] text
    ≡ ceiling system (counts resolves part) part ∷ ceilings_left system (counts resolves part) None
last_part system resolves text part rest is then none = first_part system resolves [] text
    ∙ ap (λ (p : List ℕ). part_and system resolves p (drop (prefix_len is_no_colon text) text)) (sym is)
    ∙ ap (λ (r : List ℕ). part_and system resolves part r) (sym then ∙ none)

-- and one with more after its colon
pub more_parts : (system : System) (resolves : Bool) (text part rest more : List ℕ) (b : ℕ)
    → part ≡ take (prefix_len is_no_colon text) text → rest ≡ drop (prefix_len is_no_colon text) text → rest ≡ b ∷ more
    → ceilings_in system resolves [] text
    ≡ ceiling system (counts resolves part) part ∷ ceilings_left system (counts resolves part) (Some more)
more_parts system resolves text part rest more b is then goes = first_part system resolves [] text
    ∙ ap (λ (p : List ℕ). part_and system resolves p (drop (prefix_len is_no_colon text) text)) (sym is)
    ∙ ap (λ (r : List ℕ). part_and system resolves part r) (sym then ∙ goes)

pub empty_of : (text : List ℕ) → length text < 1 → text ≡ []
empty_of [] below = refl
empty_of (b ∷ rest) below = absurd (omega (arith, below))

pub split_first : (text : List ℕ) → 1 ≤ length text → text ≡ get_or text 0 0 ∷ take (length text - 1) (drop 1 text)
split_first [] some = absurd (omega (arith, some))
split_first (b ∷ rest) some = grind (arith, common_steps)
