-- Section headers, after their `[`.
use Rattle.std.specs.Prelude.{◌≡◌, ◌≢◌, ℕ, List, [], ◌∷◌, Option, Some, None, if◌then◌else◌, ◌==◌, ⊤}
use Rattle.config_file.specs.declared.errors.Why.{Why}
use Rattle.config_file.specs.declared.errors.Why.TheVariants.{BadLine, Nul}
use Rattle.config_file.specs.Bytes.{double_quote, right_bracket, is_name_byte, is_blank, IsAtLineEnd}
use Rattle.config_file.specs.Runs.{Run, StopsRun}
use Rattle.config_file.specs.Subsection.{TakesSubsection, StopsInSubsection}

-- the name of a section, and the bytes between the quotes of its subsection, if it has one
abbrev pub Section : Type 0
Section = List ℕ × Option (List ℕ)

-- why the reading stops at this rest: `Nul` if a NUL comes next, otherwise `BadLine`
abbrev pub why_at : List ℕ → Why
why_at [] = BadLine
why_at (b ∷ rest) = if b == 0 then Nul else BadLine

-- the text does not begin with this byte
abbrev pub BeginsWithout : ℕ → List ℕ → Type 0
BeginsWithout byte [] = ⊤
BeginsWithout byte (b ∷ rest) = b ≢ byte

-- after the opening quote, the text has a subsection of these bytes, then `"]`, and then this rest
pub data ClosesSubsection : List ℕ → List ℕ → List ℕ → Type 0 where
  closes : {b : ℕ} {text raw rest : List ℕ}
      → TakesSubsection text raw (b ∷ rest) → b ≡ right_bracket
      → ClosesSubsection text raw rest

-- A subsection that is refused: how many lines after its first one the error is, and why. Git counts
-- one more line if a line end, or the end of the text, follows the closing quote.
pub data SubsectionStops : List ℕ → ℕ → Why → Type 0 where
  within : {text rest : List ℕ} → StopsInSubsection text rest → SubsectionStops text 0 (why_at rest)
  closed : {text raw rest : List ℕ}
      → TakesSubsection text raw rest → BeginsWithout right_bracket rest → ¬ (IsAtLineEnd rest)
      → SubsectionStops text 0 (why_at rest)
  closed_at_line_end : {text raw rest : List ℕ}
      → TakesSubsection text raw rest → IsAtLineEnd rest
      → SubsectionStops text 1 BadLine

-- the text has a name, which may be empty, one or more blanks, a quote, and then these inner bytes
pub record OpensSubsection (text name inner : List ℕ) : Type 0 where
  pub blanks : List ℕ
  pub blanked : List ℕ
  pub quote : ℕ
  pub name_run : Run is_name_byte text name blanked
  pub blank_run : Run is_blank blanked blanks (quote ∷ inner)
  pub some_blank : blanks ≢ []
  pub is_quote : quote ≡ double_quote

-- after its `[`, a header is a name that is not empty and `]`, or a name, blanks, a quoted subsection and `]`
pub data Header : List ℕ → Section → List ℕ → Type 0 where
  plain : {b : ℕ} {text name rest : List ℕ}
      → Run is_name_byte text name (b ∷ rest) → name ≢ [] → b ≡ right_bracket
      → Header text (name, None) rest
  quoted : {text name inner raw rest : List ℕ}
      → OpensSubsection text name inner → ClosesSubsection inner raw rest
      → Header text (name, Some raw) rest

-- a name that is empty or that no `]` follows; if the text ends there, Git counts one more line
pub data NameStops : List ℕ → List ℕ → ℕ → Why → Type 0 where
  at_end : {name : List ℕ} → NameStops name [] 1 BadLine
  empty : {b : ℕ} {rest : List ℕ} → NameStops [] (b ∷ rest) 0 (why_at (b ∷ rest))
  not_closed : {b : ℕ} {name rest : List ℕ}
      → b ≢ right_bracket
      → NameStops name (b ∷ rest) 0 (why_at (b ∷ rest))

-- a header that is refused: how many lines after its first one the error is, and why
pub data HeaderStops : List ℕ → ℕ → Why → Type 0 where
  name : {lines : ℕ} {why : Why} {text name rest : List ℕ}
      → Run is_name_byte text name rest → StopsRun is_blank rest → NameStops name rest lines why
      → HeaderStops text lines why
  blanks : {text name blanked blanks rest : List ℕ}
      → Run is_name_byte text name blanked → Run is_blank blanked blanks rest → blanks ≢ []
      → BeginsWithout double_quote rest
      → HeaderStops text 0 (why_at rest)
  subsection : {lines : ℕ} {why : Why} {text name inner : List ℕ}
      → OpensSubsection text name inner → SubsectionStops inner lines why
      → HeaderStops text lines why
