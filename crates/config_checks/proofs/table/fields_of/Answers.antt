use Rattle.std.proofs.Common.{◌∙◌, sym, ap, flat_map, rules}
use borrow.Author.Tests.{tests}
use Rattle.std.specs.List.{take_while}
use Rattle.std.proofs.lemmas.Iterator.Consumers.{YieldsList-so_far, YieldsList-turn, YieldsList-end}
use Rattle.config_checks.specs.Rows.{field_if_some, is_blank, is_no_comment}
use Rattle.config_checks.proofs.TableLemmas.{parts_of, comment_ends, without_comment}
use Rattle.config_checks.proofs.table.fields_of.Goals as goal

pub returns-then-starts_with : goal.returns-then-starts_with
returns-then-starts_with c =
    let split = c.split-field-items.ensures in
    let loop = c.loop-field in
    let parts = parts_of _ _ _ _ loop.yielded_by c.into_iter-field-iterator.ensures.into_iter_gives is_blank
    c.args.line.now split.rest split.done split.closure (λ x b q k. search (rules, tests)) in
    let before = YieldsList-so_far parts loop.yielded _ loop.yielded_by in
    let here = YieldsList-turn parts loop.yielded _ loop.yielded_by _ _ c.in-Some.field c.in-Some.is c.next.ensures.steps in
    let ends = comment_ends _ loop.yielded c.in-Some.field before here loop.invariant.before (search rules) in
    loop.invariant.fields ∙ ap (flat_map field_if_some) (sym ends)

pub returns : goal.returns
returns c =
    let split = c.split-field-items.ensures in
    let loop = c.loop-field in
    let parts = parts_of _ _ _ _ loop.yielded_by c.into_iter-field-iterator.ensures.into_iter_gives is_blank
    c.args.line.now split.rest split.done split.closure (λ x b q k. search (rules, tests)) in
    let all = YieldsList-end parts loop.yielded _ loop.yielded_by _ _ c.in-None.is c.next.ensures.steps in
    loop.invariant.fields
    ∙ ap (flat_map field_if_some) (sym (without_comment _ loop.invariant.before)
    ∙ ap (take_while is_no_comment) all.0)
