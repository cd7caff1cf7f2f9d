-- The structs that represent values in C.
use Rattle.std.specs.Prelude.{ℕ, ◌+◌, Option, None, Some}
use Rattle.config_integer.specs.declared.integer.Integer.{Integer}
use Rattle.config_word.specs.declared.name.Name.{Name}
use Rattle.config_word.specs.declared.name.Name.TheVariants.{Ansi, Rgb}
use Rattle.config_word.specs.Orders.{name_place}
use Rattle.config_color.specs.declared.color.Color.{Color}
use Rattle.gix_config_value_c.specs.declared.structs.GcvInteger.{GcvInteger}
use Rattle.gix_config_value_c.specs.declared.structs.GcvName.{GcvName}
use Rattle.gix_config_value_c.specs.declared.structs.GcvColor.{GcvColor}
use Rattle.gix_config_value_c.specs.Numbers.{suffix_number}

-- the struct of an integer: its number, and the number of its suffix
abbrev pub integer_struct : Integer → GcvInteger
integer_struct v = record { value = v.value; suffix = suffix_number v.suffix }

-- the struct with this tag, in which all else is 0
abbrev pub tagged : ℕ → GcvName
tagged tag = record { tag = tag; palette = 0; red = 0; green = 0; blue = 0 }

-- the struct of a name: its tag, which is one more than its place, and its numbers, if it has any
abbrev pub name_struct : Name → GcvName
name_struct (Ansi n) = record { tag = 19; palette = n; red = 0; green = 0; blue = 0 }
name_struct (Rgb r g b) = record { tag = 20; palette = 0; red = r; green = g; blue = b }
name_struct name = tagged (name_place name + 1)

-- the struct of a name, or of no name
abbrev pub part_struct : Option Name → GcvName
part_struct None = tagged 0
part_struct (Some n) = name_struct n

-- the struct of a color: its names and the bits of its attributes
abbrev pub color_struct : Color → GcvColor
color_struct c = record {
  foreground = part_struct c.foreground;
  background = part_struct c.background;
  attributes = c.attributes.0;
}
