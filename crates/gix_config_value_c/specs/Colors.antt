-- Two colors as one, and fewer colors, in C.
use Rattle.std.specs.Prelude.{◌≡◌, ◌⊎◌, ℕ, None, Some}
use Rattle.config_color.specs.declared.color.Color.{Color}
use Rattle.config_color.specs.declared.depth.Depth.{Depth}
use Rattle.config_color.specs.Composition.{IsOver}
use Rattle.config_color.specs.Depth.{ReducedColor}
use Rattle.gix_config_value.specs.Color.{ColorText}
use Rattle.gix_config_value.specs.Composition.{Composes}
use Rattle.gix_config_value.specs.Value.{HasText}
use Rattle.gix_config_value_c.specs.declared.status.Status.TheVariants as statuses
use Rattle.gix_config_value_c.specs.Numbers.{status_number, depth_number}
use Rattle.gix_config_value_c.specs.declared.structs.GcvColor.{GcvColor}
use Rattle.gix_config_value_c.specs.Structs.{color_struct}
use Rattle.gix_config_value_c.specs.Values.{IsNoValue, LeavesAlone}

-- the two structs represent these colors
abbrev pub AreColors : GcvColor → GcvColor → Color → Color → Type 0
AreColors a b first second = (a ≡ color_struct first) × (b ≡ color_struct second)

-- the two structs represent these colors, and each of the colors has a text that reads to it
pub record AreReadable (a b : GcvColor) (first second : Color) : Type 0 where
  pub colors : AreColors a b first second
  pub first_text : HasText ColorText first
  pub second_text : HasText ColorText second

-- the composition is put into `out`; or the colors have no composition, or one of them has no text, or a
-- struct represents no color, and `out` is left alone
pub data ComposesInto (a b out out' : GcvColor) (status : ℕ) : Type 0 where
  composed : (first second both : Color) → AreReadable a b first second → Composes first second (Some both)
      → out' ≡ color_struct both → status ≡ status_number statuses.Ok → ComposesInto a b out out' status
  too_many_names : (first second : Color) → AreReadable a b first second → Composes first second None
      → LeavesAlone statuses.TooManyNames out out' status → ComposesInto a b out out' status
  no_text : (first second : Color) → AreColors a b first second
      → (¬ (HasText ColorText first)) ⊎ (¬ (HasText ColorText second))
      → LeavesAlone statuses.NoText out out' status → ComposesInto a b out out' status
  bad_name : IsNoValue color_struct a ⊎ IsNoValue color_struct b → LeavesAlone statuses.BadName out out' status
      → ComposesInto a b out out' status

-- `top` over `base` is put into `out`; or a struct represents no color, and `out` is left alone
pub data LaysOver (a b out out' : GcvColor) (status : ℕ) : Type 0 where
  laid : (base top both : Color) → AreColors a b base top → IsOver base top both → out' ≡ color_struct both
      → status ≡ status_number statuses.Ok → LaysOver a b out out' status
  bad_name : IsNoValue color_struct a ⊎ IsNoValue color_struct b → LeavesAlone statuses.BadName out out' status
      → LaysOver a b out out' status

-- what is left of the color at the depth is put into `out`; or no depth has so many colors, or the struct
-- represents no color, and `out` is left alone
pub data ReducesInto (a : GcvColor) (colors : ℕ) (out out' : GcvColor) (status : ℕ) : Type 0 where
  reduced : (color less : Color) (depth : Depth) → a ≡ color_struct color → colors ≡ depth_number depth
      → ReducedColor depth color less → out' ≡ color_struct less → status ≡ status_number statuses.Ok
      → ReducesInto a colors out out' status
  bad_depth : (color : Color) → a ≡ color_struct color → IsNoValue depth_number colors
      → LeavesAlone statuses.BadDepth out out' status → ReducesInto a colors out out' status
  bad_name : IsNoValue color_struct a → LeavesAlone statuses.BadName out out' status
      → ReducesInto a colors out out' status
