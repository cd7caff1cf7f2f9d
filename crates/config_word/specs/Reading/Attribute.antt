-- How the code shows attributes: with a table of values and words, and what is left to write.
-- `Laws/Attribute` proves that this is `attribute_shown`. Only the contracts of private functions cite it.
use Rattle.std.specs.Prelude.{ℕ, ◌^◌, Bool, true, false, List, [], ◌∷◌, ◌++◌, map, filter, flat_map, bit_and}
use Rattle.std.specs.Prelude.{◌==◌, Option, None, Some, if◌then◌else◌}
use Rattle.std.specs.Int.RustNames.{bit_or}
use Rattle.config_text.specs.Bytes.{space}
use Rattle.config_word.specs.declared.attribute.Shown.{Shown}
use Rattle.config_word.specs.Attribute.{attributes, bit_of, opposite_of, shown_word}

-- the value and the word of a row of the code's table
abbrev pub shown_row : Shown → ℕ × List ℕ
shown_row s = (s.attribute.0, s.word.now)

-- the value and the word of each constant
abbrev pub shown_rows : List (ℕ × List ℕ)
shown_rows = map (λ row. (2 ^ bit_of row, shown_word row)) attributes

-- the values of a row of the code's table and of its opposite
abbrev pub opposite_row : Shown → ℕ × ℕ
opposite_row s = (s.attribute.0, s.opposite.0)

-- the value of a bit, or 0 if there is none
abbrev pub value_of : Option ℕ → ℕ
value_of None = 0
value_of (Some bit) = 2 ^ bit

-- the value of each constant and of its opposite
abbrev pub opposite_rows : List (ℕ × ℕ)
opposite_rows = map (λ row. (2 ^ bit_of row, value_of (opposite_of row))) attributes

-- the opposites of bits, after those that were found so far
abbrev pub opposites_from : ℕ → ℕ → List (ℕ × ℕ) → ℕ
opposites_from bits found [] = found
opposites_from bits found (row ∷ rows) =
    opposites_from bits (if bit_and bits row.0 == row.0 then bit_or found row.1 else found) rows

-- the words of the rows whose value is among the bits
abbrev pub words_in : ℕ → List (ℕ × List ℕ) → List (List ℕ)
words_in bits rows = map (λ row. row.1) (filter (λ row. bit_and bits row.0 == row.0) rows)

-- the text that is left to write: the words with a space before each, except the first word of the whole text
abbrev pub remaining : Bool → List (List ℕ) → List ℕ
remaining true [] = []
remaining true (word ∷ words) = word ++ flat_map (λ w. space ∷ w) words
remaining false words = flat_map (λ w. space ∷ w) words
