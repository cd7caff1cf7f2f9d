-- What it means for a text to be read, to be canonical, and to be the text of a value.
--
-- A grammar relates texts to the values that it gives them. A canonical grammar is a set of texts, defined
-- without reference to how values are shown.
use Rattle.std.specs.Prelude.{◌≡◌, ℕ, ◌≤◌, ◌↔◌, ◌⊎◌, List, length, Option, None, Some, Bool, IsTrue}

-- the grammar gives the text no value
abbrev pub IsRefused : {V : Type 0} → (List ℕ → V → Type 0) → List ℕ → Type 0
IsRefused {V} grammar t = (v : V) → ¬ (grammar t v)

-- the grammar gives the text some value
abbrev pub IsAccepted : {V : Type 0} → (List ℕ → V → Type 0) → List ℕ → Type 0
IsAccepted {V} grammar t = (v : V) × grammar t v

-- the grammar gives the value to some text
abbrev pub HasText : {V : Type 0} → (List ℕ → V → Type 0) → V → Type 0
HasText grammar v = (t : List ℕ) × grammar t v

-- what an exact reader returns: the value that the grammar gives the text, or `None` if it gives no value
abbrev pub Reads : {V : Type 0} → (List ℕ → V → Type 0) → List ℕ → Option V → Type 0
Reads grammar t None = IsRefused grammar t
Reads grammar t (Some v) = grammar t v

-- the length in bytes of the longest canonical text
abbrev pub longest_text : ℕ
longest_text = 127

-- a canonical text that reads to the value and is no longer than the longest one
pub record IsTextOf {V : Type 0} (grammar : List ℕ → V → Type 0) (canonical : List ℕ → Type 0) (v : V)
    (s : List ℕ) : Type 0 where
  pub canonical_text : canonical s
  pub reads_to : grammar s v
  pub short : length s ≤ longest_text

-- what a text means: `v`, its only value, and `s`, the only canonical text that reads to this value
pub record HasMeaning {V : Type 0} (grammar : List ℕ → V → Type 0) (canonical : List ℕ → Type 0) (t : List ℕ)
    (v : V) (s : List ℕ) : Type 0 where
  pub derived : grammar t v
  pub one_value : (w : V) → grammar t w → w ≡ v
  pub text : IsTextOf grammar canonical v s
  pub only_text : (r : List ℕ) → canonical r → grammar r v → r ≡ s

-- the value and the text are what the input means, or both are `None` if the grammar gives it no value
abbrev pub Means : {V : Type 0} → (List ℕ → V → Type 0) → (List ℕ → Type 0) → List ℕ → Option V
    → Option (List ℕ) → Type 0
Means grammar canonical t None None = IsRefused grammar t
Means grammar canonical t (Some v) (Some s) = HasMeaning grammar canonical t v s
Means grammar canonical t _ _ = ⊥

-- what a normalizer returns: the canonical text of the input's value, or `None` if the grammar gives no value
abbrev pub Normalizes : {V : Type 0} → (List ℕ → V → Type 0) → (List ℕ → Type 0) → List ℕ → Option (List ℕ)
    → Type 0
Normalizes grammar canonical t None = IsRefused grammar t
Normalizes {V} grammar canonical t (Some s) = (v : V) × HasMeaning grammar canonical t v s

-- two texts have these values, and `same` says whether the two values are the same
pub record AreCompared {V : Type 0} (grammar : List ℕ → V → Type 0) (a b : List ℕ) (v w : V)
    (same : Bool) : Type 0 where
  pub first : grammar a v
  pub second : grammar b w
  pub equal : IsTrue same ↔ (v ≡ w)

-- whether two texts have the same value, or `None` if the grammar gives one of them no value
abbrev pub Compares : {V : Type 0} → (List ℕ → V → Type 0) → List ℕ → List ℕ → Option Bool → Type 0
Compares grammar a b None = IsRefused grammar a ⊎ IsRefused grammar b
Compares {V} grammar a b (Some same) = (v : V) × (w : V) × AreCompared grammar a b v w same
