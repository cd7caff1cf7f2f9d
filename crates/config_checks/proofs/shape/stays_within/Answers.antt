use Rattle.std.proofs.Common.{◌≡◌, ◌≢◌, codes, All, subst, sym, rules}
use borrow.Author.Tests.{tests}
use Rattle.std.proofs.lemmas.Iterator.Consumers.{YieldsList-turn, YieldsList-end}
use Rattle.config_checks.specs.Shapes.{is_path_separator}
use Rattle.config_checks.proofs.TableLemmas.{parts_of}
use Rattle.config_checks.proofs.WordLemmas.{more_pieces}
use Rattle.config_checks.proofs.shape.stays_within.Goals as goal

pub loop-part-preserved : goal.loop-part-preserved
loop-part-preserved c = more_pieces (λ part.
    part ≢ codes "..") c.loop-part.yielded c.in-Some.part c.loop-part.invariant (search rules)

pub returns-then-eq : goal.returns-then-eq
returns-then-eq c =
    let split = c.split-part-items.ensures in
    let loop = c.loop-part in
    let parts = parts_of _ _ _ _ loop.yielded_by c.into_iter-part-iterator.ensures.into_iter_gives is_path_separator
    c.args.path.now split.rest split.done split.closure (λ x b q k. search (rules, tests)) in
    let here = YieldsList-turn parts loop.yielded _ loop.yielded_by _ _ c.in-Some.part c.in-Some.is c.next.ensures.steps in
    let same : c.in-Some.part.now ≡ codes ".." = search rules in (
      λ no. absurd (cc),
      λ all. absurd
          ((subst (λ part. part ≢ codes "..") (sym here.1) (all _ c.in-Some.part.now here.0)) same),
    )

pub returns : goal.returns
returns c =
    let split = c.split-part-items.ensures in
    let loop = c.loop-part in
    let parts = parts_of _ _ _ _ loop.yielded_by c.into_iter-part-iterator.ensures.into_iter_gives is_path_separator
    c.args.path.now split.rest split.done split.closure (λ x b q k. search (rules, tests)) in
    let all = YieldsList-end parts loop.yielded _ loop.yielded_by _ _ c.in-None.is c.next.ensures.steps in
    (λ _. subst (All (λ part. part ≢ codes "..")) all.0 loop.invariant, λ _. search rules)
