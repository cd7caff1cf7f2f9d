-- The composition of two colors, one color over another, and relations for joined texts and for texts that mean the same.
--
-- Look for: `HaveTooManyNames` counts the names of both colors, and says that both texts have one.
-- `Composes` gives `None` also for a color without a text. `Stays` asks that no opposite is above.
use Rattle.std.specs.Prelude.{◌≡◌, ℕ, ◌<◌, ◌⊎◌, ◌↔◌, List, ◌∷◌, ◌++◌, length, Option, None, Some}
use Rattle.std.specs.Option.{option_or, option_to_list}
use Rattle.std.specs.Int.{bit_at}
use Rattle.std.specs.Int.RustNames.{bit_or}
use Rattle.config_color.specs.declared.color.Color.{Color}
use Rattle.config_word.specs.declared.name.Name.{Name}
use Rattle.config_color.specs.Color.{TextRead, Placed, ColorText}
use Rattle.config_text.specs.Value.{IsAccepted, HasText}
use Rattle.config_word.specs.Attribute.{AreOpposite, AttributeText}

-- a color's names: its foreground, then its background, if it has them
abbrev pub color_names : Color → List Name
color_names c = option_to_list c.foreground ++ option_to_list c.background

-- the composition: the names of `a` and then those of `b` become its foreground and background, and the
-- attributes are united
pub record Composition (a b c : Color) : Type 0 where
  pub placed : Placed (color_names a ++ color_names b) c.foreground c.background
  pub united : c.attributes.0 ≡ bit_or a.attributes.0 b.attributes.0

-- there are more than two names, and so there is no composition
abbrev pub HasTooManyNames : Color → Color → Type 0
HasTooManyNames a b = (2 < length (color_names a ++ color_names b)) × ((c : Color) → ¬ (Composition a b c))

-- what `compose` returns: the composition of two colors that have a text, and then it has a text too; or
-- `None` if one of the two has no text, or if there are more than two names
abbrev pub Composes : Color → Color → Option Color → Type 0
Composes a b None = (¬ (HasText ColorText a)) ⊎ (¬ (HasText ColorText b)) ⊎ HasTooManyNames a b
Composes a b (Some c) =
    HasText ColorText a × HasText ColorText b × Composition a b c × HasText ColorText c

-- the bit is set in `base`, and no opposite of it is set in `top`
abbrev pub Stays : ℕ → ℕ → ℕ → Type 0
Stays base top bit =
    (bit_at base bit ≡ 1) × ((other : ℕ) → AreOpposite bit other → ¬ (bit_at top other ≡ 1))

-- `c` is `top` over `base`: it has the names of `top` and, where that has none, those of `base`; and the bits
-- of `top` with those of `base` that `top` does not take out
pub record IsOver (base top c : Color) : Type 0 where
  pub front : c.foreground ≡ option_or top.foreground base.foreground
  pub back : c.background ≡ option_or top.background base.background
  pub bits : (bit : ℕ) → (bit_at c.attributes.0 bit ≡ 1)
      ↔ ((bit_at top.attributes.0 bit ≡ 1) ⊎ Stays base.attributes.0 top.attributes.0 bit)

-- both texts have a color, and `c` is the composition of the two colors
abbrev pub Joined : List ℕ → List ℕ → Color → Type 0
Joined front back c = (a : Color) × (b : Color) × ColorText front a × ColorText back b × Composition a b c

-- both texts have a color, and the two colors together have more than two names
abbrev pub HaveTooManyNames : List ℕ → List ℕ → Type 0
HaveTooManyNames front back =
    (a : Color) × (b : Color) × ColorText front a × ColorText back b
    × (2 < length (color_names a ++ color_names b))

-- the words of both texts have the same names in the same order, and attributes of the same bits
pub record SameWords (a b : List ℕ) : Type 0 where
  pub names : List Name
  pub bits : ℕ
  pub first : TextRead a names bits
  pub second : TextRead b names bits

-- the second list of words is the first with one attribute word moved to any place, or added once more
pub data Moves (ws vs : List (List ℕ)) : Type 0 where
  moved : (w : List ℕ) (front back ahead behind : List (List ℕ)) → IsAccepted AttributeText w
      → ws ≡ front ++ w ∷ back → vs ≡ ahead ++ w ∷ behind → front ++ back ≡ ahead ++ behind → Moves ws vs
  repeated : (w : List ℕ) (front back ahead behind : List (List ℕ)) → IsAccepted AttributeText w
      → ws ≡ front ++ w ∷ back → vs ≡ ahead ++ w ∷ behind → ws ≡ ahead ++ behind → Moves ws vs
