-- Which keys the key of a row covers.
use Rattle.std.specs.Prelude.{◌≡◌, ◌⊎◌, ⊤, ℕ, List, codes, Option, None, Some}
use Rattle.config_text.specs.SameWord.{SameWord}
use Rattle.config_file.specs.Key.{Key}

-- the row's subsection covers the key's: it is `*` or has the same bytes, or neither has a subsection
abbrev pub CoversSubsection : Option (List ℕ) → Option (List ℕ) → Type 0
CoversSubsection None None = ⊤
CoversSubsection (Some row) (Some subsection) = (row ≡ codes "*") ⊎ (row ≡ subsection)
CoversSubsection _ _ = ⊥

-- the row's name covers the key's: it is `*`, or the names are the same, ignoring case
abbrev pub CoversName : List ℕ → List ℕ → Type 0
CoversName row name = (row ≡ codes "*") ⊎ SameWord row name

-- the row's key covers the key: sections and names ignore ASCII case, and `*` covers any name
pub record Covers (row key : Key) : Type 0 where
  pub section : SameWord row.section key.section
  pub subsection : CoversSubsection row.subsection key.subsection
  pub name : CoversName row.name key.name
