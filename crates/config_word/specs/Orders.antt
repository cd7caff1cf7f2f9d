-- The orders of names and of sets of attributes.
use Rattle.std.specs.Prelude.{ℕ, List, [], ◌∷◌}
use Rattle.std.specs.Ordering.{nat_cmp, then_cmp, on}
use Rattle.std.specs.Cmp.Lexicographic.{slice_cmp}
use Rattle.std.specs.declared.cmp.Ordering.{Ordering}
use Rattle.config_word.specs.declared.attribute.Attribute.{Attribute}
use Rattle.config_word.specs.declared.name.Name.{Name}
use Rattle.config_word.specs.declared.name.Name.TheVariants.{Normal, Default, Black, BrightBlack, Red}
use Rattle.config_word.specs.declared.name.Name.TheVariants.{BrightRed, Green, BrightGreen, Yellow}
use Rattle.config_word.specs.declared.name.Name.TheVariants.{BrightYellow, Blue, BrightBlue, Magenta}
use Rattle.config_word.specs.declared.name.Name.TheVariants.{BrightMagenta, Cyan, BrightCyan, White}
use Rattle.config_word.specs.declared.name.Name.TheVariants.{BrightWhite, Ansi, Rgb}

-- the order of sets of attributes: by the number that the bits write
abbrev pub attribute_order : Attribute → Attribute → Ordering
attribute_order = on (λ a. a.0) nat_cmp

-- the place of a name: the words from `Normal` to `BrightWhite`, then palette numbers, then red, green and
-- blue
abbrev pub name_place : Name → ℕ
name_place Normal = 0
name_place Default = 1
name_place Black = 2
name_place BrightBlack = 3
name_place Red = 4
name_place BrightRed = 5
name_place Green = 6
name_place BrightGreen = 7
name_place Yellow = 8
name_place BrightYellow = 9
name_place Blue = 10
name_place BrightBlue = 11
name_place Magenta = 12
name_place BrightMagenta = 13
name_place Cyan = 14
name_place BrightCyan = 15
name_place White = 16
name_place BrightWhite = 17
name_place (Ansi n) = 18
name_place (Rgb r g b) = 19

-- the numbers of a name; a word has no numbers
abbrev pub name_numbers : Name → List ℕ
name_numbers (Ansi n) = n ∷ []
name_numbers (Rgb r g b) = r ∷ g ∷ b ∷ []
name_numbers _ = []

-- the order of names: by the place, then by the numbers, the first one first
abbrev pub name_order : Name → Name → Ordering
name_order = then_cmp (on name_place nat_cmp) (on name_numbers (slice_cmp nat_cmp))
