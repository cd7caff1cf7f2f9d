-- A color with one part is shown as this part.
use Rattle.std.proofs.Common.{◌≡◌, ℕ, zero, suc, Some, None, refl}
use Rattle.std.specs.List.{join_with_byte}
use Rattle.config_text.specs.Bytes.{space}
use Rattle.config_word.specs.declared.name.Name.{Name}
use Rattle.config_word.specs.Attribute.{attributes, attribute_shown}
use Rattle.config_word.specs.Name.{name_shown}
use Rattle.config_color.specs.declared.color.Color.{Color}
use Rattle.config_color.specs.Color.{color_shown, set_shown}

-- a color with a foreground alone is shown as this name
pub name_alone : (c : Color) (n : Name) → c.foreground ≡ Some n → c.background ≡ None → c.attributes.0 ≡ 0
    → name_shown n ≡ color_shown c
name_alone c n f b a = rw (f, b, a) refl

-- a set that comes after no name is shown alone, and the empty set as no text
set_only : (bits : ℕ) → attribute_shown bits ≡ join_with_byte space (set_shown bits)
unfolding attributes
set_only zero = refl
set_only (suc n) = refl

-- a color without names is shown as its set of attributes
pub set_alone : (c : Color) → c.foreground ≡ None → c.background ≡ None
    → attribute_shown c.attributes.0 ≡ color_shown c
set_alone c f b = rw (f, b) (set_only c.attributes.0)
