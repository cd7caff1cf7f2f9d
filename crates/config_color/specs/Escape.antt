-- Escape sequences: what is written to a terminal so that the text after it is drawn in a color.
--
-- Look for: the rows of `attribute_codes` in their order, with one row for two attributes; 30 and 40, and
-- 60 more for bright; no `;` at the end.
use Rattle.std.specs.Prelude.{ℕ, ◌+◌, ◌-◌, ◌^◌, List, [], ◌∷◌, ◌++◌, map, filter, codes, decimal, bit_and, ◌==◌}
use Rattle.std.specs.Prelude.{Option, None, Some, not, nat_lt, if◌then◌else◌}
use Rattle.std.specs.List.{join_with_byte}
use Rattle.config_color.specs.declared.color.Color.{Color}
use Rattle.config_word.specs.declared.name.Name.{Name}
use Rattle.config_word.specs.declared.name.Name.TheVariants.{Normal, Default, Black, BrightBlack, Red}
use Rattle.config_word.specs.declared.name.Name.TheVariants.{BrightRed, Green, BrightGreen, Yellow}
use Rattle.config_word.specs.declared.name.Name.TheVariants.{BrightYellow, Blue, BrightBlue, Magenta}
use Rattle.config_word.specs.declared.name.Name.TheVariants.{BrightMagenta, Cyan, BrightCyan, White}
use Rattle.config_word.specs.declared.name.Name.TheVariants.{BrightWhite, Ansi, Rgb}

-- the codes of attributes in their order, each after the bits of which one is enough; that of reset is empty
unfoldable pub attribute_codes : List (ℕ × List ℕ)
attribute_codes =
    (2 ^ 8, codes "")
    ∷ (2 ^ 1, codes "1")
    ∷ (2 ^ 2, codes "2")
    ∷ (2 ^ 3, codes "3")
    ∷ (2 ^ 4, codes "4")
    ∷ (2 ^ 5, codes "5")
    ∷ (2 ^ 6, codes "7")
    ∷ (2 ^ 7, codes "9")
    ∷ (2 ^ 22 + 2 ^ 21, codes "22")
    ∷ (2 ^ 23, codes "23")
    ∷ (2 ^ 24, codes "24")
    ∷ (2 ^ 25, codes "25")
    ∷ (2 ^ 26, codes "27")
    ∷ (2 ^ 27, codes "29")
    ∷ []

-- the codes of the rows with which the bits have one in common
abbrev pub row_codes : ℕ → List (ℕ × List ℕ) → List (List ℕ)
row_codes bits rows = map (λ row. row.1) (filter (λ row. not (bit_and bits row.0 == 0)) rows)

-- the codes of a number of the palette, if `black` is the code of black: 30 for a foreground, and 40 for a
-- background; the first eight numbers are the basic colors, and the next eight the bright ones
abbrev pub palette_codes : ℕ → ℕ → List ℕ
palette_codes black number =
    if nat_lt number 8 then (black + number) ∷ []
    else if nat_lt number 16 then (black + 60 + (number - 8)) ∷ []
    else (black + 8) ∷ 5 ∷ number ∷ []

-- the codes of a name: those of its number, or `8` and its parts, or `9`, counted from black
abbrev pub name_codes : ℕ → Name → List ℕ
name_codes black Normal = []
name_codes black Default = (black + 9) ∷ []
name_codes black Black = palette_codes black 0
name_codes black Red = palette_codes black 1
name_codes black Green = palette_codes black 2
name_codes black Yellow = palette_codes black 3
name_codes black Blue = palette_codes black 4
name_codes black Magenta = palette_codes black 5
name_codes black Cyan = palette_codes black 6
name_codes black White = palette_codes black 7
name_codes black BrightBlack = palette_codes black 8
name_codes black BrightRed = palette_codes black 9
name_codes black BrightGreen = palette_codes black 10
name_codes black BrightYellow = palette_codes black 11
name_codes black BrightBlue = palette_codes black 12
name_codes black BrightMagenta = palette_codes black 13
name_codes black BrightCyan = palette_codes black 14
name_codes black BrightWhite = palette_codes black 15
name_codes black (Ansi n) = palette_codes black n
name_codes black (Rgb r g b) = (black + 8) ∷ 2 ∷ r ∷ g ∷ b ∷ []

-- the codes of a name in decimal, or no code if there is no name
abbrev pub part_codes : ℕ → Option Name → List (List ℕ)
part_codes black None = []
part_codes black (Some n) = map decimal (name_codes black n)

-- the codes of a color: those of its attributes, of its foreground and of its background
abbrev pub color_codes : Color → List (List ℕ)
color_codes c =
    row_codes c.attributes.0 attribute_codes ++ part_codes 30 c.foreground ++ part_codes 40 c.background

-- the sequence of some codes: nothing without codes; otherwise ESC, `[`, the codes with `;` between, and `m`
abbrev pub sequence_of : List (List ℕ) → List ℕ
sequence_of [] = []
sequence_of (code ∷ more) = 27 ∷ codes "[" ++ join_with_byte 59 (code ∷ more) ++ codes "m"

-- the escape sequence of a color, also of a color without a text; an unknown bit adds nothing
abbrev pub escape_sequence : Color → List ℕ
escape_sequence c = sequence_of (color_codes c)
