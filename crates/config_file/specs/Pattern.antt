-- Patterns of paths, as Git matches them.
use Rattle.std.specs.Prelude.{◌≡◌, ◌≢◌, ℕ, Bool, true, false, not, if◌then◌else◌, ◌||◌, ◌&&◌, ◌==◌, List, []}
use Rattle.std.specs.Prelude.{◌∷◌}
use Rattle.config_file.specs.Bytes.{left_bracket, backslash}
use Rattle.config_file.specs.Runs.{Run}
use Rattle.config_file.specs.Set.{slash, folded, StandsForByte}

abbrev pub star : ℕ
star = 42

abbrev pub question_mark : ℕ
question_mark = 63

abbrev pub is_star : ℕ → Bool
is_star b = b == star

-- whether a byte of a pattern matches this byte: `?` matches any byte except `/`, and an ordinary byte itself
abbrev pub stands_for : Bool → ℕ → ℕ → Bool
stands_for ignores_case c b =
    if c == question_mark then not (b == slash)
    else if (c == star || c == left_bracket) || c == backslash then false
    else folded ignores_case c == folded ignores_case b

-- The pattern begins with an item that matches this byte, and this rest follows. If case is ignored, an upper
-- case letter after a backslash matches nothing, since only the byte of the text is put in lower case.
pub data Item (ignores_case : Bool) : List ℕ → ℕ → List ℕ → Type 0 where
  byte : {c b : ℕ} {rest : List ℕ} → stands_for ignores_case c b ≡ true → Item ignores_case (c ∷ rest) b rest
  escaped : {c e b : ℕ} {rest : List ℕ} → c ≡ backslash → e ≡ folded ignores_case b
      → Item ignores_case (c ∷ e ∷ rest) b rest
  set : {c b : ℕ} {text rest : List ℕ} → c ≡ left_bracket → StandsForByte ignores_case text b rest
      → Item ignores_case (c ∷ text) b rest

-- whether the pattern is empty, or begins with `/` or with a backslash and `/`
abbrev pub ends_name : List ℕ → Bool
ends_name [] = true
ends_name (c ∷ []) = c == slash
ends_name (c ∷ e ∷ rest) = c == slash || (c == backslash && e == slash)

-- whether stars cross directories: they are two or more, and a name starts before them and ends after them
abbrev pub crosses : Bool → List ℕ → List ℕ → Bool
crosses starts [] rest = false
crosses starts (c ∷ more) rest = starts && ends_name rest

-- whether stars match this byte: any byte except `/`, and `/` too if they cross directories
abbrev pub is_passed : Bool → ℕ → Bool
is_passed crosses b = crosses || not (b == slash)

-- stars match any number of bytes at the start of the text, and this is left
pub data Passes (crossing : Bool) : List ℕ → List ℕ → Type 0 where
  no_more : {text : List ℕ} → Passes crossing text text
  passes : {b : ℕ} {text left : List ℕ} → is_passed crossing b ≡ true → Passes crossing text left
      → Passes crossing (b ∷ text) left

-- the pattern matches the whole text; the flag says whether a name starts here
pub data Matches (ignores_case : Bool) : Bool → List ℕ → List ℕ → Type 0 where
  ends : {starts : Bool} → Matches ignores_case starts [] []
  one : {starts : Bool} {b : ℕ} {pattern text : List ℕ} (rest : List ℕ) → Item ignores_case pattern b rest
      → Matches ignores_case (b == slash) rest text → Matches ignores_case starts pattern (b ∷ text)
  stars : {starts : Bool} {c : ℕ} {pattern text : List ℕ} (more rest left : List ℕ) → c ≡ star
      → Run is_star pattern more rest → Passes (crosses starts more rest) text left
      → Matches ignores_case false rest left → Matches ignores_case starts (c ∷ pattern) text
  no_directory : {starts : Bool} {c : ℕ} {pattern text : List ℕ} (more rest : List ℕ) → c ≡ star
      → Run is_star pattern more (slash ∷ rest) → crosses starts more (slash ∷ rest) ≡ true
      → Matches ignores_case true rest text → Matches ignores_case starts (c ∷ pattern) text

-- the pattern matches the whole text
abbrev pub MatchesText : Bool → List ℕ → List ℕ → Type 0
MatchesText ignores_case pattern text = Matches ignores_case true pattern text

-- stars match some bytes at the start of the text, or no byte, and the pattern matches what is left
abbrev pub MatchesLater : Bool → Bool → List ℕ → List ℕ → Type 0
MatchesLater ignores_case crossing pattern text =
    (left : List ℕ) × Passes crossing text left × Matches ignores_case false pattern left

-- a star and then this pattern match the text
abbrev pub MatchesStars : Bool → Bool → List ℕ → List ℕ → Type 0
MatchesStars ignores_case starts pattern text = Matches ignores_case starts (star ∷ pattern) text

-- the pattern does not begin with a star
abbrev pub LacksStar : List ℕ → Type 0
LacksStar pattern = (rest : List ℕ) → pattern ≢ star ∷ rest

-- stars cross directories, the pattern begins with `/`, and what follows that `/` matches the text
abbrev pub MatchesNoDirectory : Bool → Bool → List ℕ → List ℕ → Type 0
MatchesNoDirectory ignores_case crossing pattern text =
    (rest : List ℕ) × (crossing ≡ true) × (pattern ≡ slash ∷ rest) × Matches ignores_case true rest text
