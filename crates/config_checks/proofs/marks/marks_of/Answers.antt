use Rattle.std.proofs.Common.{arith, sym}
use Rattle.std.proofs.lemmas.List.{take_all}
use Rattle.config_checks.proofs.MarkLemmas.{marked_more}
use Rattle.config_checks.proofs.marks.marks_of.Goals as goal

pub loop-row-preserved : goal.loop-row-preserved
loop-row-preserved c =
    marked_more c.args.rows.now c.loop-row.row-index c.row-item.result _ _ c.loop-row-test.true
    (sym c.row-item.is) c.loop-row.invariant
    c.mark_row.ensures.kept c.mark_row.ensures.marked

pub returns : goal.returns
returns c = rw (take_all c.loop-row.row-index c.args.rows.now
    (omega (arith, c.loop-row-test.false))) at c.loop-row.invariant
