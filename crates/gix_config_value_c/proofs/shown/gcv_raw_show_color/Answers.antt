use Rattle.std.proofs.Common.{refl, sym}
use Rattle.std.proofs.lemmas.Bool.Decides.{Decides-eqb}
use Rattle.gix_config_value_c.specs.Buffers.AnswersText.{put}
use Rattle.gix_config_value_c.proofs.OnePart.{name_alone, set_alone}
use Rattle.config_word.specs.Attribute.{attribute_shown}
use Rattle.config_word.specs.Name.{name_shown}
use Rattle.config_color.specs.Color.{color_shown}
use Rattle.gix_config_value_c.proofs.shown.gcv_raw_show_color.Goals as goal

pub returns-in-Some-None-true : goal.returns-in-Some-None-true
returns-in-Some-None-true c =
    let color = c.in-Some.color in
    let empty = (Decides-eqb color.attributes.0 0).0 (sym (c.in-Some-None-true.ensures tt)) in
    let shown = name_alone color c.in-Some-None-true.name c.in-Some-None-true.is-0 c.in-Some-None-true.is-1 empty in
    put (name_shown c.in-Some-None-true.name) (color, c.in-Some.ensures, shown) c.put_name.ensures

pub returns-in-None-None-default : goal.returns-in-None-None-default
returns-in-None-None-default c =
    let color = c.in-Some.color in
    let shown = set_alone color c.in-None-None-default.is-0 c.in-None-None-default.is-1 in
    put (attribute_shown color.attributes.0) (color, c.in-Some.ensures, shown) c.put_set.ensures

pub returns-in_default-2 : goal.returns-in_default-2
returns-in_default-2 c = put (color_shown c.in-Some.color) (c.in-Some.color, c.in-Some.ensures, refl) c.put_long_color.ensures
