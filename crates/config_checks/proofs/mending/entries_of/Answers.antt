use Rattle.std.proofs.Common.{None, Some, refl}
use Rattle.config_checks.proofs.MendLemmas.{read_start, read_more, read_all}
use Rattle.config_checks.proofs.mending.entries_of.Goals as goal

pub loop-entry-init : goal.loop-entry-init
loop-entry-init c =
    rw (c.new-entries.ensures.items, c.into_iter-entry-iterator.ensures.into_iter_gives)
    (read_start _ c.new-entry-items.result c.new-entry-items.ensures.section c.new-entry-items.ensures.begins)

pub loop-entry-preserved : goal.loop-entry-preserved
loop-entry-preserved c =
    let gives = rw c.in-Ok.is at c.in-Some.ensures.steps in
    rw c.in_ok-push-in-Ok.ensures.items (read_more _ _ _ c.loop-entry.invariant _ c.in-Ok.entry gives)

pub returns-in-Err : goal.returns-in-Err
returns-in-Err c =
    let gives = rw c.in-Err.is at c.in-Some.ensures.steps in
    (refl, read_all _ _ _ c.loop-entry.invariant (Some c.in-Err.error) gives.0)

pub returns : goal.returns
returns c = (refl, read_all _ _ _ c.loop-entry.invariant None c.in-None.ensures.steps.0)
