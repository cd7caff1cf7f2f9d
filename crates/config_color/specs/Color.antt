-- Colors: a foreground, a background and a set of attributes.
--
-- Look for: `WordsRead`: each word is a name or an attribute. `Placed`: the last line is `⊥`, so a third
-- name is refused. `Chosen` says "some, in order".
use Rattle.std.specs.Prelude.{◌≡◌, ℕ, ◌≤◌, ◌⊎◌, List, [], ◌∷◌, ◌++◌, length, map, Option, None, Some}
use Rattle.std.specs.Prelude.{zero, suc}
use Rattle.std.specs.Bool.{⊤}
use Rattle.std.specs.Int.{bit_at}
use Rattle.std.specs.Int.RustNames.{bit_or}
use Rattle.std.specs.List.{AllByRecursion, join_with_byte}
use Rattle.config_color.specs.declared.color.Color.{Color}
use Rattle.config_word.specs.declared.attribute.Attribute.{Attribute}
use Rattle.config_word.specs.declared.name.Name.{Name}
use Rattle.config_text.specs.Bytes.{space}
use Rattle.config_word.specs.Attribute.{AttributeText, IsKnownBit, attribute_shown, attributes, shown_word}
use Rattle.config_word.specs.Name.{NameText, CanonicalName, NameFits, name_shown}
use Rattle.config_color.specs.Words.{Words}

-- the color of a text without words: no names and no attributes
abbrev pub no_color : Color
no_color = record { foreground = None; background = None; attributes = record { 0 = 0 } }

-- each word is a name text or an attribute text; the list has the names, in order, and the number has the
-- bits of all attributes
pub data WordsRead : List (List ℕ) → List Name → ℕ → Type 0 where
  nothing : WordsRead [] [] 0
  name : {w : List ℕ} {ws : List (List ℕ)} {n : Name} {names : List Name} {bits : ℕ}
      → NameText w n → WordsRead ws names bits → WordsRead (w ∷ ws) (n ∷ names) bits
  attribute : {w : List ℕ} {ws : List (List ℕ)} {a : Attribute} {names : List Name} {bits : ℕ}
      → AttributeText w a → WordsRead ws names bits → WordsRead (w ∷ ws) names (bit_or a.0 bits)

-- the words of the text have these names, and attributes with these bits
pub record TextRead (t : List ℕ) (names : List Name) (bits : ℕ) : Type 0 where
  pub words : List (List ℕ)
  pub cut : Words t words
  pub read : WordsRead words names bits

-- the first name is the foreground and the second the background, each `None` if there is no such name; a
-- third name is not allowed
abbrev pub Placed : List Name → Option Name → Option Name → Type 0
Placed [] foreground background = (foreground ≡ None) × (background ≡ None)
Placed (n ∷ []) foreground background = (foreground ≡ Some n) × (background ≡ None)
Placed (n ∷ m ∷ []) foreground background = (foreground ≡ Some n) × (background ≡ Some m)
Placed (n ∷ m ∷ o ∷ names) foreground background = ⊥

-- color text: its words are names and attributes, with at most two names: the foreground, then the background
pub record ColorText (t : List ℕ) (c : Color) : Type 0 where
  pub names : List Name
  pub read : TextRead t names c.attributes.0
  pub placed : Placed names c.foreground c.background

-- the shown text of a name, or no text if there is no name
abbrev pub part_shown : Option Name → List (List ℕ)
part_shown None = []
part_shown (Some n) = name_shown n ∷ []

-- the shown text of the attributes, or no text if no bit is set
abbrev pub set_shown : ℕ → List (List ℕ)
set_shown zero = []
set_shown (suc n) = attribute_shown (suc n) ∷ []

-- how a color is shown: its foreground, its background and its attributes, if it has them, with one space
-- between
abbrev pub color_shown : Color → List ℕ
color_shown c =
    join_with_byte space ((part_shown c.foreground ++ part_shown c.background) ++ set_shown c.attributes.0)

-- the second list has some of the texts of the first, in the same order, each at most once
abbrev pub Chosen : List (List ℕ) → List (List ℕ) → Type 0
Chosen [] [] = ⊤
Chosen [] (w ∷ ws) = ⊥
Chosen (row ∷ rows) [] = ⊤
Chosen (row ∷ rows) (w ∷ ws) = ((w ≡ row) × Chosen rows ws) ⊎ Chosen rows (w ∷ ws)

-- the canonical texts: at most two canonical names, then some of the attributes' words by rising bit, each at
-- most once, with one space between
pub record CanonicalColor (t : List ℕ) : Type 0 where
  pub names : List (List ℕ)
  pub words : List (List ℕ)
  pub at_most_two : length names ≤ 2
  pub named : AllByRecursion CanonicalName names
  pub chosen : Chosen (map shown_word attributes) words
  pub spelled : t ≡ join_with_byte space (names ++ words)

-- the numbers of a name, if there is one, are bytes
abbrev pub PartFits : Option Name → Type 0
PartFits None = ⊤
PartFits (Some n) = NameFits n

-- each bit that is set has a constant
abbrev pub AreKnown : ℕ → Type 0
AreKnown bits = (bit : ℕ) → bit_at bits bit ≡ 1 → IsKnownBit bit
