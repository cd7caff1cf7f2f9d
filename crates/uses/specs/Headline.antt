-- The headline: what the readers and normalizers promise of one text. `Headline` names no definition of the
-- library, since the grammars are its parameters.
use Rattle.std.specs.Prelude.{◌≡◌, ◌≤◌, ◌↔◌, ◌⊎◌, ℕ, List, length, Option, None, Some}
use Rattle.config_color.specs.declared.color.Color.{Color}
use Rattle.gix_config_value.specs.Value.{IsRefused}
use Rattle.gix_config_value.specs.Color.{ColorText}
use Rattle.gix_config_value.specs.Composition.{Joined, HaveTooManyNames}

-- The reader accepts exactly the texts that the grammar derives, with the one value that it gives them. The
-- normalizer returns exactly the canonical texts that read to this value, so just one. Two texts have the
-- same value exactly if their normalized texts are equal.
pub record Headline {V : Type 0} (grammar : List ℕ → V → Type 0) (canonical : List ℕ → Type 0) (text : List ℕ)
    (value : Option V) (normalized : Option (List ℕ)) : Type 0 where
  pub accepted : (v : V) → (value ≡ Some v) ↔ (grammar text v)
  pub only_text : (s : List ℕ) → (normalized ≡ Some s)
      ↔ (canonical s × (v : V) × grammar text v × grammar s v)
  pub at_most : (s : List ℕ) → normalized ≡ Some s → length s ≤ 127
  pub same : (other s : List ℕ) (w : V) → grammar other w → canonical s → grammar s w
      → (value ≡ Some w) ↔ (normalized ≡ Some s)

-- White space joins two texts. The joined text is read as the composition of their colors. It is refused
-- exactly if one of the two is refused, or if their colors have more than two names.
pub record JoinedHeadline (front back : List ℕ) (color : Option Color) : Type 0 where
  pub read : (c : Color) → (color ≡ Some c) ↔ (Joined front back c)
  pub refused : (color ≡ None)
      ↔ (IsRefused ColorText front ⊎ IsRefused ColorText back ⊎ HaveTooManyNames front back)
