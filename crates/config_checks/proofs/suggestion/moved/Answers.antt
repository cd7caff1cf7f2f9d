use Rattle.std.proofs.Common.{arith, sym}
use Rattle.std.proofs.lemmas.List.{take_all}
use Rattle.config_file.specs.KeyView.{key_of}
use Rattle.config_checks.specs.Suggestions.{IsMovedRow}
use Rattle.config_checks.proofs.RunLemmas.{all_more, first_such}
use Rattle.config_checks.proofs.suggestion.moved.Goals as goal

pub loop-run-init : goal.loop-run-init
loop-run-init c = λ k d inside. absurd (omega (arith, inside))

pub returns-in-Some : goal.returns-in-Some
returns-in-Some c = first_such (IsMovedRow
    (key_of c.args.key.now)) c.args.runs.now c.loop-run.run-index c.run-item.result c.in-Some.row.now
    c.loop-run-test.true (sym c.run-item.is) c.loop-run.invariant c.in-Some.ensures

pub loop-run-preserved : goal.loop-run-preserved
loop-run-preserved c =
    all_more (λ row. ¬ (IsMovedRow (key_of c.args.key.now) row)) c.args.runs.now c.loop-run.run-index c.run-item.result c.loop-run-test.true (sym c.run-item.is)
    c.loop-run.invariant c.in_default.ensures

pub returns : goal.returns
returns c = rw (take_all c.loop-run.run-index c.args.runs.now
    (omega (arith, c.loop-run-test.false))) at c.loop-run.invariant
