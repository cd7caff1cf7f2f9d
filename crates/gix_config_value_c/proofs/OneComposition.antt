-- The structs of two colors have at most one composition.
use Rattle.std.proofs.Common.{arith, ◌≡◌, ◌⊎◌, inl, inr, Option, None, Some, sym, ap, subst, ◌∙◌}
use Rattle.std.proofs.lemmas.Option.{same_Some, none-some}
use Rattle.config_color.specs.declared.color.Color.{Color}
use Rattle.gix_config_value.specs.Color.{ColorText}
use Rattle.gix_config_value.specs.Composition.{Composes}
use Rattle.gix_config_value.specs.Value.{HasText}
use Rattle.gix_config_value_c.specs.declared.structs.GcvColor.{GcvColor}
use Rattle.gix_config_value_c.specs.Answers.{HasOneResult}
use Rattle.gix_config_value_c.specs.Colors.{AreColors, ComposesInto}
use Rattle.gix_config_value_c.specs.Colors.ComposesInto.{composed, too_many_names, no_text, bad_name}
use Rattle.gix_config_value_c.specs.Structs.{color_struct}
use Rattle.gix_config_value_c.specs.Values.{IsNoValue}
use Rattle.gix_config_value_c.proofs.StructsApart.{colors_apart}

pub same_first : (a b : GcvColor) (v w x y : Color) → AreColors a b v w → AreColors a b x y → x ≡ v
same_first a b v w x y p q = colors_apart x v (sym q.0 ∙ p.0)

pub same_second : (a b : GcvColor) (v w x y : Color) → AreColors a b v w → AreColors a b x y → y ≡ w
same_second a b v w x y p q = colors_apart y w (sym q.1 ∙ p.1)

-- a composition of any two colors with these structs is the composition of `v` and `w`
as_first : (a b : GcvColor) (v w x y : Color) (result : Option Color) → AreColors a b v w → AreColors a b x y
    → Composes x y result → Composes v w result
as_first a b v w x y result p q composes =
    rw (same_first a b v w x y p q, same_second a b v w x y p q) at composes

has_texts : (a b : GcvColor) (v w x y : Color) → AreColors a b v w → HasText ColorText v → HasText ColorText w
    → AreColors a b x y
    → ¬ ((¬ (HasText ColorText x)) ⊎ (¬ (HasText ColorText y)))
has_texts a b v w x y p first second q (inl never) = never (subst (λ z. HasText ColorText z) (sym (same_first a b v w x y p q)) first)
has_texts a b v w x y p first second q (inr never) = never (subst (λ z. HasText ColorText z) (sym (same_second a b v w x y p q)) second)

pub are_values : (a b : GcvColor) (v w : Color) → AreColors a b v w → ¬ (IsNoValue color_struct a ⊎ IsNoValue color_struct b)
are_values a b v w p never = grind arith

pub composes_once : ((v w : Color) (r s : Option Color) → Composes v w r → Composes v w s → r ≡ s)
    → (a b : GcvColor) → HasOneResult (ComposesInto a b)
composes_once one a b out x y s r (composed v w both are is writes ok) (composed p q other also makes puts good) =
    let same = one v w (Some both) (Some other) is (as_first a b v w p q (Some other) are.colors also.colors makes) in
    (writes ∙ (ap color_struct (same_Some both other same) ∙ sym puts), ok ∙ sym good)
composes_once one a b out x y s r (composed v w both are is writes ok) (too_many_names p q also nothing left) =
    absurd (none-some both (one v w None (Some both) (as_first a b v w p q None are.colors also.colors nothing) is))
composes_once one a b out x y s r (too_many_names p q also nothing left) (composed v w both are is writes ok) =
    absurd (none-some both (one v w None (Some both) (as_first a b v w p q None are.colors also.colors nothing) is))
composes_once one a b out x y s r (too_many_names p q also nothing left) (too_many_names v w are never kept) =
    (left.0 ∙ sym kept.0, left.1 ∙ sym kept.1)
composes_once one a b out x y s r (no_text p q also never left) (composed v w both are is writes ok) =
    absurd (has_texts a b v w p q are.colors are.first_text are.second_text also never)
composes_once one a b out x y s r (no_text p q also never left) (too_many_names v w are nothing kept) =
    absurd (has_texts a b v w p q are.colors are.first_text are.second_text also never)
composes_once one a b out x y s r (no_text p q also never left) (no_text v w are neither kept) =
    (left.0 ∙ sym kept.0, left.1 ∙ sym kept.1)
composes_once one a b out x y s r (bad_name never left) q = grind (arith, are_values)
composes_once one a b out x y s r (composed v w both are is writes ok) (no_text p q also never left) =
    absurd (has_texts a b v w p q are.colors are.first_text are.second_text also never)
composes_once one a b out x y s r (too_many_names v w are nothing left) (no_text p q also never kept) =
    absurd (has_texts a b v w p q are.colors are.first_text are.second_text also never)
composes_once one a b out x y s r p (bad_name never left) = grind (arith, are_values)
