-- Keys as Git lists them.
--
-- Look for (here and in Views): names and keys in lower case, subsections as they are; what the code's
-- structs hold, as bytes.
use Rattle.std.specs.Prelude.{ℕ, List, [], ◌∷◌, ◌++◌, Option, Some, None, map}
use Rattle.std.specs.Char.{to_ascii_lowercase}
use Rattle.config_file.specs.Bytes.{dot}
use Rattle.config_file.specs.Header.{Section}
use Rattle.config_file.specs.Subsection.{SpellsSubsection}

-- how Git lists a section: its lower-case name and a dot, then the text of its subsection, if any, and a dot
pub data IsListedSection : Section → List ℕ → Type 0 where
  plain : {name : List ℕ} → IsListedSection (name, None) (map to_ascii_lowercase name ++ dot ∷ [])
  quoted : {name raw spelled : List ℕ}
      → SpellsSubsection raw spelled
      → IsListedSection (name, Some raw) ((map to_ascii_lowercase name ++ dot ∷ []) ++ (spelled ++ dot ∷ []))

-- how Git lists a key: in lower case, after its section if a header precedes it
pub data IsListed : Option Section → List ℕ → List ℕ → Type 0 where
  alone : {key : List ℕ} → IsListed None key (map to_ascii_lowercase key)
  in_section : {section : Section} {key listed : List ℕ}
      → IsListedSection section listed
      → IsListed (Some section) key (listed ++ map to_ascii_lowercase key)
