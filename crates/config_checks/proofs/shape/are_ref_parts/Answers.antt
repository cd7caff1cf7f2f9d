use Rattle.std.proofs.Common.{All, subst, sym, rules}
use borrow.Author.Tests.{tests}
use Rattle.std.proofs.lemmas.Iterator.Consumers.{YieldsList-turn, YieldsList-end}
use Rattle.config_checks.specs.Shapes.{is_slash, IsRefPart}
use Rattle.config_checks.proofs.TableLemmas.{parts_of}
use Rattle.config_checks.proofs.WordLemmas.{more_pieces}
use Rattle.config_checks.proofs.shape.are_ref_parts.Goals as goal

pub loop-part-preserved : goal.loop-part-preserved
loop-part-preserved c = more_pieces IsRefPart c.loop-part.yielded c.in-Some.part c.loop-part.invariant
    (c.is_ref_part.ensures.0 (search rules))

pub returns-then-not-is_ref_part : goal.returns-then-not-is_ref_part
returns-then-not-is_ref_part c =
    let split = c.split-part-items.ensures in
    let loop = c.loop-part in
    let parts = parts_of _ _ _ _ loop.yielded_by c.into_iter-part-iterator.ensures.into_iter_gives is_slash
    c.args.text.now split.rest split.done split.closure (λ x b q k. search (rules, tests)) in
    let here = YieldsList-turn parts loop.yielded _ loop.yielded_by _ _ c.in-Some.part c.in-Some.is c.next.ensures.steps in
    let wrong : ¬ (IsRefPart c.in-Some.part.now) = λ piece. absurd (search rules) in
    (λ no. absurd (cc), λ all. absurd (wrong (subst IsRefPart (sym here.1) (all _ c.in-Some.part.now here.0))))

pub returns : goal.returns
returns c =
    let split = c.split-part-items.ensures in
    let loop = c.loop-part in
    let parts = parts_of _ _ _ _ loop.yielded_by c.into_iter-part-iterator.ensures.into_iter_gives is_slash
    c.args.text.now split.rest split.done split.closure (λ x b q k. search (rules, tests)) in
    let all = YieldsList-end parts loop.yielded _ loop.yielded_by _ _ c.in-None.is c.next.ensures.steps in
    (λ _. subst (All IsRefPart) all.0 loop.invariant, λ _. search rules)
