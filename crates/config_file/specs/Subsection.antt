-- The subsection of a header: the bytes in its quotes, and the text that they spell.
--
-- Look for (here and in Header): a backslash keeps any byte but LF and NUL. A name alone is not empty, and
-- a blank follows a name before quotes.
use Rattle.std.specs.Prelude.{◌≡◌, ℕ, true, List, [], ◌∷◌, ◌++◌}
use Rattle.config_file.specs.Bytes.{double_quote, backslash, is_text_byte, is_plain_in_quotes, EndsText}

-- these bytes spell this subsection: a backslash is dropped, and the byte after it is kept
pub data SpellsSubsection : List ℕ → List ℕ → Type 0 where
  ends : SpellsSubsection [] []
  escaped : {b e : ℕ} {raw text : List ℕ}
      → b ≡ backslash → is_text_byte e ≡ true → SpellsSubsection raw text
      → SpellsSubsection (b ∷ e ∷ raw) (e ∷ text)
  plain : {b : ℕ} {raw text : List ℕ}
      → is_plain_in_quotes b ≡ true → SpellsSubsection raw text
      → SpellsSubsection (b ∷ raw) (b ∷ text)

-- these bytes spell a subsection
abbrev pub IsSubsection : List ℕ → Type 0
IsSubsection raw = (text : List ℕ) × SpellsSubsection raw text

-- after the opening quote, the text has a subsection of these bytes, the closing quote, and then this rest
pub record TakesSubsection (text raw rest : List ℕ) : Type 0 where
  pub is_subsection : IsSubsection raw
  pub joined : text ≡ raw ++ double_quote ∷ rest

-- no quote closes the subsection: the reading stops at this rest, which is empty or begins with LF or NUL
pub data StopsInSubsection : List ℕ → List ℕ → Type 0 where
  stops : {text raw rest : List ℕ}
      → IsSubsection raw → text ≡ raw ++ rest → EndsText rest
      → StopsInSubsection text rest
  stops_escaped : {b : ℕ} {text raw rest : List ℕ}
      → IsSubsection raw → text ≡ raw ++ b ∷ rest → b ≡ backslash → EndsText rest
      → StopsInSubsection text rest
