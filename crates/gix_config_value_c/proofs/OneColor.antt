-- From the same input the calls that lay colors over colors, reduce them, and tell a depth have one result.
use Rattle.std.proofs.Common.{arith, ◌≡◌, ℕ, List, [], ◌∷◌, Bool, Option, sym, ap, ◌∙◌}
use Rattle.config_color.specs.declared.color.Color.{Color}
use Rattle.config_color.specs.declared.depth.Depth.{Depth}
use Rattle.config_color.specs.Composition.{IsOver}
use Rattle.config_color.specs.Depth.{ReducedColor}
use Rattle.config_color.specs.Terminal.{DecidesFirst, depth_rules}
use Rattle.gix_config_value_c.specs.Answers.{HasOneResult}
use Rattle.gix_config_value_c.specs.Colors.{LaysOver, ReducesInto}
use Rattle.gix_config_value_c.specs.Colors.LaysOver.{laid, bad_name}
use Rattle.gix_config_value_c.specs.Colors.ReducesInto.{reduced, bad_depth, bad_name as no_color}
use Rattle.gix_config_value_c.specs.Numbers.{flag_number}
use Rattle.gix_config_value_c.specs.Paths.{IsGiven, HasBadFlag}
use Rattle.gix_config_value_c.specs.Structs.{color_struct}
use Rattle.gix_config_value_c.specs.Terminals.{TellsDepth}
use Rattle.gix_config_value_c.specs.declared.structs.GcvColor.{GcvColor}
use Rattle.gix_config_value_c.proofs.NumbersApart.{depths_apart, flags_apart}
use Rattle.gix_config_value_c.proofs.OneComposition.{same_first, same_second, are_values}
use Rattle.gix_config_value_c.proofs.OnePath.{given_once, not_bad}
use Rattle.gix_config_value_c.proofs.StructsApart.{colors_apart}

pub lays_once : ((base top c d : Color) → IsOver base top c → IsOver base top d → c ≡ d)
    → (a b : GcvColor) → HasOneResult (LaysOver a b)
lays_once one a b out x y s r (laid v w both are is writes ok) (laid p q other also makes puts good) =
    let same = one v w both other is (rw (same_first a b v w p q are also, same_second a b v w p q are also) at makes) in
    (writes ∙ (ap color_struct same ∙ sym puts), ok ∙ sym good)
lays_once one a b out x y s r (laid v w both are is writes ok) (bad_name never left) = absurd (are_values a b v w are never)
lays_once one a b out x y s r (bad_name never left) (laid v w both are is writes ok) = absurd (are_values a b v w are never)
lays_once one a b out x y s r (bad_name never left) (bad_name neither kept) = (left.0 ∙ sym kept.0, left.1 ∙ sym kept.1)

pub reduces_once : ((depth : Depth) (c d e : Color) → ReducedColor depth c d → ReducedColor depth c e → d ≡ e)
    → (a : GcvColor) (number : ℕ) → HasOneResult (ReducesInto a number)
reduces_once one a number out x y s r (reduced v less d is at to writes ok) (reduced w other e also near makes puts good) =
    let color : w ≡ v = colors_apart w v (sym also ∙ is) in
    let depth : e ≡ d = depths_apart e d (sym near ∙ at) in
    let same = one d v less other to (rw (color, depth) at makes) in
    (writes ∙ (ap color_struct same ∙ sym puts), ok ∙ sym good)
reduces_once one a number out x y s r (bad_depth w also never left) q = grind arith
reduces_once one a number out x y s r (no_color never left) q = grind arith
reduces_once one a number out x y s r p (bad_depth w also never left) = grind arith
reduces_once one a number out x y s r p (no_color never left) = grind arith

-- flags that are given are not bad
none_bad : (k : ℕ) (flag : Bool) (a b d : ℕ × List ℕ) (n t c : Option (List ℕ)) → k ≡ flag_number flag → IsGiven a n
    → IsGiven b t → IsGiven d c → ¬ (HasBadFlag (k ∷ a.0 ∷ b.0 ∷ d.0 ∷ []))
none_bad k flag a b d n t c e x y z bad = grind (arith, not_bad)

pub tells_depth_once : ((flag : Bool) (n t c : Option (List ℕ)) (d e : Option Depth)
    → DecidesFirst (depth_rules flag n t c) d → DecidesFirst (depth_rules flag n t c) e → d ≡ e)
    → (k : ℕ) (a b g : ℕ × List ℕ) → HasOneResult (TellsDepth k a b g)
tells_depth_once one k a b g out x y s r p q = grind (arith, flags_apart, given_once, none_bad)
