use Rattle.std.proofs.Common.{◌≡◌, sym, refl}
use Rattle.config_search.specs.Names.{line}
use Rattle.config_search.specs.Questions.{of_table, of_tables}
use Rattle.config_search.proofs.Parts.{in_itself, in_left, in_lines}
use Rattle.config_search.proofs.reftable.target_in.Goals as goal

pub answer_in-requires : goal.answer_in-requires
answer_in-requires c = λ system agrees. rw (c.deref.ensures.value, c.in_ok-folder.ensures) (of_tables (c.requires system agrees))

pub loop-table-init : goal.loop-table-init
loop-table-init c = λ more. in_itself _

pub target_in_table-requires-clause-text_of : goal.target_in_table-requires-clause-text_of
target_in_table-requires-clause-text_of c = λ system agrees.
    let steps = c.in-Some-table.ensures.steps in
    let begun : c.into_iter-table-iterator.result.parts.rest.now ≡ line c.in-Some.tables.now =
    cc (c.into_iter-table-iterator.ensures.into_iter_gives, c.rsplit-table-items.ensures.rest, c.line.ensures) in
    rw (c.deref-in-loop-table.ensures.value, c.in_ok-folder.ensures) (of_table refl (c.requires system agrees)
    (sym (rw (c.in-Some.is, c.deref.ensures.value, c.in_ok-folder.ensures) at c.in_ok-tables.ensures system agrees))
    (in_lines _ _ _ c.in-Some-table.table.now _ _ begun (c.loop-table.invariant steps.0) steps.1))

pub target_in_table-requires-clause-block_of : goal.target_in_table-requires-clause-block_of
target_in_table-requires-clause-block_of c = λ system agrees.
    let steps = c.in-Some-table.ensures.steps in
    let begun : c.into_iter-table-iterator.result.parts.rest.now ≡ line c.in-Some.tables.now =
    cc (c.into_iter-table-iterator.ensures.into_iter_gives, c.rsplit-table-items.ensures.rest, c.line.ensures) in
    rw (c.deref-in-loop-table.ensures.value, c.in_ok-folder.ensures) (of_table refl (c.requires system agrees)
    (sym (rw (c.in-Some.is, c.deref.ensures.value, c.in_ok-folder.ensures) at c.in_ok-tables.ensures system agrees))
    (in_lines _ _ _ c.in-Some-table.table.now _ _ begun (c.loop-table.invariant steps.0) steps.1))

pub loop-table-preserved : goal.loop-table-preserved
loop-table-preserved c = λ more.
    let steps = c.in-Some-table.ensures.steps in
    in_left _ _ _ _ _ (c.loop-table.invariant steps.0) steps.1 more
