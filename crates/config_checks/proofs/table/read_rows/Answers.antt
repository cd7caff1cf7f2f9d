use Rattle.std.proofs.Common.{◌==◌, subst, sym, rules, arith}
use borrow.Author.Tests.{tests}
use Rattle.std.proofs.lemmas.List.{length_push}
use Rattle.std.proofs.lemmas.Iterator.Consumers.{YieldsList-so_far, YieldsList-turn, YieldsList-end}
use Rattle.config_checks.specs.Rows.{AddsRows}
use Rattle.config_checks.proofs.TableLemmas.{parts_of, more_rows, bad_line}
use Rattle.config_checks.proofs.table.read_rows.Goals as goal

pub loop-line-preserved : goal.loop-line-preserved
loop-line-preserved c = record {
  numbered = omega (arith, c.loop-line.invariant.numbered, length_push c.loop-line.yielded c.in-Some.line);
  added = more_rows c.loop-line.yielded c.in-Some.line _ _ _ c.loop-line.invariant.added c.in_default.ensures.adds;
}

pub returns-in-Err-clause-refused : goal.returns-in-Err-clause-refused
returns-in-Err-clause-refused c =
    let split = c.split-line-items.ensures in
    let loop = c.loop-line in
    let parts = parts_of _ _ _ _ loop.yielded_by c.into_iter-line-iterator.ensures.into_iter_gives (λ b. b == 10)
    c.args.text.now split.rest split.done split.closure (λ x b q k. search (rules, tests)) in
    let before = YieldsList-so_far parts loop.yielded _ loop.yielded_by in
    let here = YieldsList-turn parts loop.yielded _ loop.yielded_by _ _ c.in-Some.line c.in-Some.is c.next.ensures.steps in
    bad_line c.args.text.now loop.yielded c.in-Some.line (record {
      line =
          loop.number;
      fault = c.in-Err.fault;
    }) _ _
    before here loop.invariant.numbered (subst (AddsRows _ _) (sym c.in-Err.ensures.kept) loop.invariant.added)
    c.in-Err.ensures.refused

pub returns-clause-adds : goal.returns-clause-adds
returns-clause-adds c =
    let split = c.split-line-items.ensures in
    let loop = c.loop-line in
    let parts = parts_of _ _ _ _ loop.yielded_by c.into_iter-line-iterator.ensures.into_iter_gives (λ b. b == 10)
    c.args.text.now split.rest split.done split.closure (λ x b q k. search (rules, tests)) in
    let all = YieldsList-end parts loop.yielded _ loop.yielded_by _ _ c.in-None.is c.next.ensures.steps in
    subst (λ lines. AddsRows lines c.args.rows.now.items loop.rows.items) all.0 loop.invariant.added
