-- The order of colors.
use Rattle.std.specs.Option.{option_cmp}
use Rattle.std.specs.Ordering.{then_cmp, on}
use Rattle.std.specs.declared.cmp.Ordering.{Ordering}
use Rattle.config_color.specs.declared.color.Color.{Color}
use Rattle.config_word.specs.Orders.{name_order, attribute_order}

-- by the foreground, then by the background, with `None` first in each, then by the attributes
abbrev pub color_order : Color → Color → Ordering
color_order = then_cmp (on (λ c. c.foreground) (option_cmp name_order))
    (then_cmp (on (λ c. c.background) (option_cmp name_order)) (on (λ c. c.attributes) attribute_order))
