use Rattle.std.proofs.Common.{rules, refl, inl, inr}
use Rattle.gix_config_value_c.specs.Colors.{AreColors}
use Rattle.gix_config_value_c.specs.Colors.ComposesInto.{composed, too_many_names, no_text}
use Rattle.gix_config_value_c.proofs.colors.gcv_raw_compose.Goals as goal

pub returns-in-Some-compose : goal.returns-in-Some-compose
returns-in-Some-compose c =
    let colors : AreColors c.args.first.now c.args.second.now _ _ = (c.in-Some.ensures, c.in-Some-color_of.ensures) in
    composed _ _ c.in-Some-compose.both
    record { colors = colors; first_text = search rules; second_text = search rules }
    c.in-Some-compose.ensures c.color_struct.ensures refl

pub returns-in-None : goal.returns-in-None
returns-in-None c =
    let colors : AreColors c.args.first.now c.args.second.now _ _ = (c.in-Some.ensures, c.in-Some-color_of.ensures) in
    too_many_names _ _ record { colors = colors; first_text = search rules; second_text = search rules }
    c.in-None.ensures (refl, refl)

pub returns-then-not-has_text : goal.returns-then-not-has_text
returns-then-not-has_text c =
    no_text _ _ (c.in-Some.ensures, c.in-Some-color_of.ensures) (inl (λ h. search rules)) (refl, refl)

pub returns-then-not-has_text-2 : goal.returns-then-not-has_text-2
returns-then-not-has_text-2 c =
    no_text _ _ (c.in-Some.ensures, c.in-Some-color_of.ensures) (inr (λ h. search rules)) (refl, refl)
