-- Attributes: sets of bits, some of which have a word.
--
-- Look for: `attributes`: a row has its constant, its bit, the shown word, other spellings and its opposite's
-- bit. No law says which bit is bold, only examples do.
use Rattle.std.specs.Prelude.{◌≡◌, ◌↔◌, ℕ, ◌^◌, List, [], ◌∷◌, map, filter, codes, ◌==◌, Option, None, Some}
use Rattle.std.specs.Int.{bit_at}
use Rattle.std.specs.List.{join_with_byte}
use Rattle.config_word.specs.declared.attribute.Attribute.{Attribute}
use Rattle.config_text.specs.Bytes.{space}
use Rattle.config_text.specs.OneOf.{OneOf}
use Rattle.config_text.specs.SameWord.{SameWord}

-- a constant: its name, its bit, the word that it is shown as, its other spellings, and its opposite's bit
abbrev pub AttributeRow : Type 0
AttributeRow = List ℕ × ℕ × List ℕ × List (List ℕ) × Option ℕ

-- the name of the constant
abbrev pub constant_of : AttributeRow → List ℕ
constant_of row = row.0

-- the bit of the constant
abbrev pub bit_of : AttributeRow → ℕ
bit_of row = row.1

-- the word that the constant is shown as
abbrev pub shown_word : AttributeRow → List ℕ
shown_word row = row.2

-- all spellings of the constant: the word that it is shown as, then the others
abbrev pub spellings_of : AttributeRow → List (List ℕ)
spellings_of row = row.2 ∷ row.3

-- the bit of the opposite constant, if there is one
abbrev pub opposite_of : AttributeRow → Option ℕ
opposite_of row = row.4

-- the constants, by rising bit
unfoldable pub attributes : List AttributeRow
attributes =
    (codes "BOLD", 1, codes "bold", [], Some 22)
    ∷ (codes "DIM", 2, codes "dim", [], Some 21)
    ∷ (codes "ITALIC", 3, codes "italic", [], Some 23)
    ∷ (codes "UL", 4, codes "ul", [], Some 24)
    ∷ (codes "BLINK", 5, codes "blink", [], Some 25)
    ∷ (codes "REVERSE", 6, codes "reverse", [], Some 26)
    ∷ (codes "STRIKE", 7, codes "strike", [], Some 27)
    ∷ (codes "RESET", 8, codes "reset", [], None)
    ∷ (codes "NO_DIM", 21, codes "nodim", codes "no-dim" ∷ [], Some 2)
    ∷ (codes "NO_BOLD", 22, codes "nobold", codes "no-bold" ∷ [], Some 1)
    ∷ (codes "NO_ITALIC", 23, codes "noitalic", codes "no-italic" ∷ [], Some 3)
    ∷ (codes "NO_UL", 24, codes "noul", codes "no-ul" ∷ [], Some 4)
    ∷ (codes "NO_BLINK", 25, codes "noblink", codes "no-blink" ∷ [], Some 5)
    ∷ (codes "NO_REVERSE", 26, codes "noreverse", codes "no-reverse" ∷ [], Some 6)
    ∷ (codes "NO_STRIKE", 27, codes "nostrike", codes "no-strike" ∷ [], Some 7)
    ∷ []

-- the name and the value of each constant
abbrev pub attribute_flags : List (List ℕ × ℕ)
attribute_flags = map (λ row. (constant_of row, 2 ^ bit_of row)) attributes

-- a bit that has a constant
abbrev pub IsKnownBit : ℕ → Type 0
IsKnownBit bit = OneOf (map bit_of attributes) bit

-- the bit of each constant and that of its opposite, if there is one
abbrev pub opposites : List (ℕ × Option ℕ)
opposites = map (λ row. (bit_of row, opposite_of row)) attributes

-- the first bit is that of a constant, and the other that of its opposite
abbrev pub AreOpposite : ℕ → ℕ → Type 0
AreOpposite bit other = OneOf opposites (bit, Some other)

-- the set has the opposites of the constants of the bits, and no other bit
abbrev pub HasOpposites : ℕ → Attribute → Type 0
HasOpposites bits set = (bit : ℕ)
    → (bit_at set.0 bit ≡ 1) ↔ ((other : ℕ) × AreOpposite bit other × (bit_at bits other ≡ 1))

-- attribute text: exactly a spelling of one constant, or the word `reset` in any case
pub data AttributeText (t : List ℕ) (a : Attribute) : Type 0 where
  word : (row : AttributeRow) → OneOf attributes row → OneOf (spellings_of row) t → a.0 ≡ 2 ^ bit_of row
      → AttributeText t a
  reset : SameWord t (codes "reset") → a.0 ≡ 2 ^ 8 → AttributeText t a

-- the words of the known bits that are set, by rising bit
abbrev pub attribute_words : ℕ → List (List ℕ)
attribute_words bits = map shown_word (filter (λ row. bit_at bits (bit_of row) == 1) attributes)

-- how a set of bits is shown: the words of its known bits, with one space between; an unknown bit is not
-- shown
abbrev pub attribute_shown : ℕ → List ℕ
attribute_shown bits = join_with_byte space (attribute_words bits)

-- the canonical texts of attributes: the words that the constants are shown as
abbrev pub CanonicalAttribute : List ℕ → Type 0
CanonicalAttribute t = OneOf (map shown_word attributes) t
