-- What a list of entries says about a name. An entry is a name and a text, and the last entry with a name
-- decides.
use Rattle.std.specs.Prelude.{◌≡◌, ℕ, ◌<◌, ◌↔◌, List, Some, map}
use Rattle.std.specs.List.{slice_get}
use Rattle.config_text.specs.Value.{IsRefused}
use denote.Ref.{Bor}
use Rattle.config_text.specs.declared.settings.Refused.{Refused}

-- the names and texts of borrowed entries
abbrev pub entry_texts : List (Bor (List ℕ) × Bor (List ℕ)) → List (List ℕ × List ℕ)
entry_texts es = map (λ e. (e.0.now, e.1.now)) es

-- entry `i`, counted from 0, has exactly this name and this text
abbrev pub IsNamed : List (List ℕ × List ℕ) → List ℕ → ℕ → List ℕ → Type 0
IsNamed es n i t = slice_get es i ≡ Some (n, t)

-- no entry has this name
abbrev pub IsAbsent : List (List ℕ × List ℕ) → List ℕ → Type 0
IsAbsent es n = (i : ℕ) (t : List ℕ) → ¬ (IsNamed es n i t)

-- entry `i` decides: it has this name and this text, and no later entry has the name
pub record Decides (es : List (List ℕ × List ℕ)) (n : List ℕ) (i : ℕ) (t : List ℕ) : Type 0 where
  pub named : IsNamed es n i t
  pub last : (j : ℕ) (u : List ℕ) → i < j → ¬ (IsNamed es n j u)

-- the value of a name: the value of the deciding entry's text, or the default if no entry has the name
pub data Finds {V : Type 0} (grammar : List ℕ → V → Type 0) (es : List (List ℕ × List ℕ)) (n : List ℕ)
    (default v : V) : Type 0 where
  decided : (i : ℕ) (t : List ℕ) → Decides es n i t → grammar t v → Finds grammar es n default v
  absent : IsAbsent es n → v ≡ default → Finds grammar es n default v

-- entry `i` decides, and the grammar gives its text no value
pub record DecidingIsRefused {V : Type 0} (grammar : List ℕ → V → Type 0) (es : List (List ℕ × List ℕ))
    (n : List ℕ) (i : ℕ) (t : List ℕ) : Type 0 where
  pub decides : Decides es n i t
  pub refused : IsRefused grammar t

-- the second entry is the first one, or has the same name and a canonical text of the same value
pub data IsReplaced {V : Type 0} (grammar : List ℕ → V → Type 0) (canonical : List ℕ → Type 0)
    (e f : List ℕ × List ℕ) : Type 0 where
  kept : e ≡ f → IsReplaced grammar canonical e f
  replaced : (v : V) → e.0 ≡ f.0 → grammar e.1 v → canonical f.1 → grammar f.1 v
      → IsReplaced grammar canonical e f

-- both lists give each name the same value, whatever the default, and refuse it at the same index with the
-- same text
pub record SameAnswers {V : Type 0} (grammar : List ℕ → V → Type 0)
    (es fs : List (List ℕ × List ℕ)) : Type 0 where
  pub values : (n : List ℕ) (default v : V) → (Finds grammar es n default v) ↔ (Finds grammar fs n default v)
  pub refusals : (n : List ℕ) (i : ℕ) (t : List ℕ)
      → (DecidingIsRefused grammar es n i t) ↔ (DecidingIsRefused grammar fs n i t)

-- a name has at most one result: one value for each default, or one refusal, and never both
pub record OneAnswer {V : Type 0} (grammar : List ℕ → V → Type 0) (es : List (List ℕ × List ℕ)) : Type 0 where
  pub value : (n : List ℕ) (default v w : V) → Finds grammar es n default v → Finds grammar es n default w
      → v ≡ w
  pub refusal : (n : List ℕ) (i j : ℕ) (t u : List ℕ) → DecidingIsRefused grammar es n i t
      → DecidingIsRefused grammar es n j u → (i ≡ j) × (t ≡ u)
  pub apart : (n : List ℕ) (default v : V) (i : ℕ) (t : List ℕ) → Finds grammar es n default v
      → ¬ (DecidingIsRefused grammar es n i t)

-- two refusals with the same index, and with texts of the same bytes
abbrev pub IsSameRefused : Refused → Refused → Type 0
IsSameRefused r s = (r.index ≡ s.index) × (r.input.now ≡ s.input.now)
