-- The order of colors, for any comparison of names that is the order of names.
use Rattle.std.proofs.Common.{◌≡◌, Option, None, Some, refl}
use Rattle.std.specs.Option.{option_cmp}
use Rattle.std.specs.Ordering.{nat_cmp, ordering_then}
use Rattle.std.specs.declared.cmp.Ordering.{Ordering}
use Rattle.config_color.specs.declared.color.Color.{Color}
use Rattle.config_word.specs.declared.name.Name.{Name}
use Rattle.config_word.specs.Orders.{name_order}
use Rattle.config_color.specs.Orders.{color_order}

module _ (cmp : Name → Name → Ordering) (same : (m n : Name) → cmp m n ≡ name_order m n) where
  part_same : (f g : Option Name) → option_cmp cmp f g ≡ option_cmp name_order f g
  part_same None None = refl
  part_same None (Some n) = refl
  part_same (Some m) None = refl
  part_same (Some m) (Some n) = same m n

  pub color_same : (c d : Color)
      → ordering_then (option_cmp cmp c.foreground d.foreground)
      (ordering_then (option_cmp cmp c.background d.background) (nat_cmp c.attributes.0 d.attributes.0))
      ≡ color_order c d
  color_same c d = rw (part_same c.foreground d.foreground, part_same c.background d.background) refl
