-- Whether a program writes colors, and how many.
use Rattle.std.specs.Prelude.{◌≡◌, ◌≢◌, ℕ, Bool, List, [], ◌∷◌, ◌++◌, codes, Option, None, Some, ◌⊎◌, false, ⊤}
use Rattle.std.specs.Option.{IsSomeAnd}
use Rattle.config_color.specs.declared.depth.Depth.{Depth}
use Rattle.config_color.specs.declared.depth.Depth.TheVariants.{Ansi16, Ansi256, TrueColor}

-- `NO_COLOR` is set, and not empty
abbrev pub IsFilled : Option (List ℕ) → Type 0
IsFilled variable = IsSomeAnd variable (λ value. value ≢ [])

-- `TERM` is not set, or it names a terminal without abilities
abbrev pub IsDumb : Option (List ℕ) → Type 0
IsDumb term = (term ≡ None) ⊎ (term ≡ Some (codes "dumb"))

-- `COLORTERM` stands for all colors
abbrev pub IsRich : Option (List ℕ) → Type 0
IsRich colorterm = (colorterm ≡ Some (codes "truecolor")) ⊎ (colorterm ≡ Some (codes "24bit"))

-- the text ends in this word
abbrev pub EndsIn : List ℕ → List ℕ → Type 0
EndsIn word text = (front : List ℕ) × (text ≡ front ++ word)

-- the text has this word in it
abbrev pub HasWord : List ℕ → List ℕ → Type 0
HasWord word text = (front : List ℕ) × (back : List ℕ) × (text ≡ front ++ word ++ back)

-- the rules for an output that is a terminal or not, and for these variables, each with the depth that it
-- decides, or `None` for no colors
abbrev pub depth_rules : Bool → (no_color term colorterm : Option (List ℕ)) → List (Type 0 × Option Depth)
depth_rules is_terminal no_color term colorterm =
    (is_terminal ≡ false, None)
    ∷ (IsFilled no_color, None)
    ∷ (IsDumb term, None)
    ∷ (IsRich colorterm, Some TrueColor)
    ∷ (IsSomeAnd term (EndsIn (codes "-direct")), Some TrueColor)
    ∷ (IsSomeAnd term (HasWord (codes "256color")), Some Ansi256)
    ∷ (⊤, Some Ansi16) ∷ []

-- the first rule that applies decides this
abbrev pub DecidesFirst : List (Type 0 × Option Depth) → Option Depth → Type 0
DecidesFirst [] decided = ⊥
DecidesFirst ((applies, decision) ∷ rules) decided =
    (applies × (decided ≡ decision)) ⊎ (¬ applies × DecidesFirst rules decided)
