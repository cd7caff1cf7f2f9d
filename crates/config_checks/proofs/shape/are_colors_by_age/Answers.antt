use Rattle.std.proofs.Common.{subst, sym, map, not, refl, true, ◌&&◌, ◌↔◌, ◌∷◌, [], IsTrue, rules}
use borrow.Author.Tests.{tests}
use mathlib.Core.List.{map-append}
use Rattle.std.proofs.lemmas.Iterator.Consumers.{YieldsList-end}
use Rattle.config_checks.specs.Shapes.{is_comma, Alternate}
use Rattle.config_checks.specs.Shapes.Alternate.{nothing}
use Rattle.config_checks.specs.Reading.Steps.{Turn}
use Rattle.config_checks.specs.Reading.Steps.Turn.{start, turn}
use Rattle.config_checks.proofs.TableLemmas.{parts_of}
use Rattle.config_checks.proofs.ShapeLemmas.{next_field, whole_fields}
use Rattle.config_checks.proofs.shape.are_colors_by_age.Goals as goal

pub loop-field-init : goal.loop-field-init
loop-field-init c = ((λ yes. nothing, λ all. refl), start)

pub loop-field-preserved : goal.loop-field-preserved
loop-field-preserved c =
    let loop = c.loop-field in
    let had = map (λ field. field.now) loop.yielded in
    let field = c.in-Some.field.now in
    let more = next_field loop.is_right c.may_follow.result loop.color had field loop.invariant.0 c.may_follow.ensures in
    let grown = sym (map-append (λ f. f.now) loop.yielded (c.in-Some.field ∷ [])) in (
      rw c.both-is_right.ensures (subst (λ fields. IsTrue (loop.is_right && c.may_follow.result)
          ↔ Alternate (not loop.color) fields) grown more),
      subst (Turn (not loop.color)) grown (turn loop.color had field loop.invariant.1),
    )

pub returns : goal.returns
returns c =
    let split = c.split-field-items.ensures in
    let loop = c.loop-field in
    let parts = parts_of _ _ _ _ loop.yielded_by c.into_iter-field-iterator.ensures.into_iter_gives is_comma
    c.args.text.now split.rest split.done split.closure (λ x b q k. search (rules, tests)) in
    let all = YieldsList-end parts loop.yielded _ loop.yielded_by _ _ c.in-None.is c.next.ensures.steps in
    let whole = whole_fields loop.is_right loop.color (map (λ field. field.now) loop.yielded) loop.invariant.0 loop.invariant.1 in
    rw c.both.ensures (subst (λ fields. IsTrue (loop.is_right && loop.color) ↔ Alternate true fields) all.0 whole)
