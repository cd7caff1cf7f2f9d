use Rattle.std.proofs.Common.{rules, Option, inr, sym, subst, ◌∙◌}
use Rattle.config_color.specs.declared.color.Color.{Color}
use Rattle.config_color.specs.Color.{ColorText}
use Rattle.config_color.specs.Composition.{Composition, Composes}
use Rattle.config_color.specs.Laws.Composition.{places_compose, places_refuse, composition_has_text}
use Rattle.config_color.proofs.composition.compose.Goals as goal
use Rattle.config_text.specs.Value.{HasText}

pub returns-in_err-foreground : goal.returns-in_err-foreground
returns-in_err-foreground c =
    let first : HasText ColorText c.args.a = search rules in
    let second : HasText ColorText c.args.b = search rules in
    let many = places_refuse c.args.a c.args.b first second (sym c.places.ensures ∙ c.in_err-foreground.was) in
    subst (λ (r : Option Color). Composes c.args.a c.args.b r) (sym c.from_residual.ensures) (inr (inr many))

pub returns : goal.returns
returns c =
    let first : HasText ColorText c.args.a = search rules in
    let second : HasText ColorText c.args.b = search rules in
    let placed = places_compose c.args.a c.args.b c.in_ok-foreground.foreground c.in_ok-foreground.background
    first second (sym c.places.ensures ∙ c.in_ok-foreground.was) in
    let made : Color = record {
      foreground = c.in_ok-foreground.foreground;
      background = c.in_ok-foreground.background;
      attributes = c.union-attributes.result;
    } in
    let composition : Composition c.args.a c.args.b made =
    record { placed = placed; united = c.union-attributes.ensures tt } in
    (first, second, composition, composition_has_text c.args.a c.args.b made first second composition)
