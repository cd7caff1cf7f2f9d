-- How far a pattern has matched a text.
use Rattle.std.specs.Prelude.{◌≡◌, ◌↔◌, ℕ, ◌+◌, ◌<◌, ◌⊎◌, Bool, true, List, ◌∷◌, length}
use Rattle.config_file.specs.Runs.{Run}
use Rattle.config_file.specs.Set.{slash, is_unclosed}
use Rattle.config_file.specs.Pattern.{star, is_passed, Matches, MatchesStars, MatchesNoDirectory}
use Rattle.config_file.specs.Pattern.{MatchesLater}
use Rattle.config_file.specs.declared.pattern.Found.{Found}
use Rattle.config_file.specs.declared.pattern.Found.TheVariants.{Whole, Nothing, Stars}

-- The pattern matches a later part of the text, after one or more bytes that stars match. If a name starts
-- there, the last of these bytes is `/`.
pub data Further (ignores_case crossing starts : Bool) (pattern : List ℕ) : List ℕ → Type 0 where
  next : {b : ℕ} {text : List ℕ} → is_passed crossing b ≡ true → (starts ≡ true → b ≡ slash)
      → Matches ignores_case starts pattern text
      → Further ignores_case crossing starts pattern (b ∷ text)
  beyond : {b : ℕ} {text : List ℕ} → is_passed crossing b ≡ true
      → Further ignores_case crossing starts pattern text
      → Further ignores_case crossing starts pattern (b ∷ text)

-- the pattern matches the text here, or a later part of it
abbrev pub FromHere : Bool → Bool → Bool → List ℕ → List ℕ → Type 0
FromHere ignores_case crossing starts pattern text =
    Matches ignores_case starts pattern text ⊎ Further ignores_case crossing starts pattern text

-- Items at the front of the pattern match bytes at the front of the text, and these rests follow. Where the
-- pattern matches a later part of the text, its rest matches a later part of the rest.
pub record Follows (ignores_case starts : Bool) (pattern text : List ℕ) (starts_after : Bool) (after left : List ℕ) : Type 0 where
  pub here : Matches ignores_case starts pattern text ↔ (Matches ignores_case starts_after after left)
  pub later : (crossing : Bool) → FromHere ignores_case crossing starts pattern text
      → FromHere ignores_case crossing starts_after after left

-- stars that cross directories, and then this pattern, match the text
abbrev pub MatchesDeep : Bool → List ℕ → List ℕ → Type 0
MatchesDeep ignores_case pattern text =
    MatchesNoDirectory ignores_case true pattern text ⊎ MatchesLater ignores_case true pattern text

-- whether a claim holds, or it holds exactly if a star and this rest match this text
abbrev pub FindsStar : Bool → Type 0 → (Bool → Type 0) → Found → Type 0
FindsStar ignores_case claim from Whole = claim
FindsStar ignores_case claim from Nothing = ¬ claim
FindsStar ignores_case claim from (Stars place) =
    (MatchesStars ignores_case place.starts place.pattern.now place.text.now → claim)
    × ((crossing : Bool) → from crossing → FromHere ignores_case crossing place.starts (star ∷ place.pattern.now) place.text.now)

-- whether a claim holds, or it holds exactly if stars that cross directories, and this rest, match this text
abbrev pub FindsDeep : Bool → Type 0 → Type 0 → Found → Type 0
FindsDeep ignores_case claim from Whole = claim
FindsDeep ignores_case claim from Nothing = ¬ claim
FindsDeep ignores_case claim from (Stars place) =
    (MatchesDeep ignores_case place.pattern.now place.text.now → claim)
    × (from → MatchesDeep ignores_case place.pattern.now place.text.now)

-- how much of the pattern is left after the stars that were found
abbrev pub size : Found → ℕ
size Whole = 0
size Nothing = 0
size (Stars place) = length place.pattern.now + 1

-- in a set, the next `]` from here on begins the last of these texts, or that `]` has been passed
abbrev pub Closing : List ℕ → List ℕ → Type 0
Closing text closing =
    ((inside : List ℕ) × Run is_unclosed text inside closing) ⊎ (length text < length closing)
