use Rattle.std.proofs.lemmas.List.{take_rest}
use Rattle.gix_config_value.proofs.LineLemmas.{unbroken_nowhere, cuts_first}
use Rattle.gix_config_value.proofs.StepLemmas.{AnswersUpTo-start, AnswersUpTo-more, FailsWithin-in_lines}
use Rattle.gix_config_value.proofs.StepLemmas.{passed_on}
use Rattle.gix_config_value.proofs.program.Progress.answer_lines.Goals as goal

pub loop-place-init : goal.loop-place-init
loop-place-init g c = AnswersUpTo-start _ _ c.requires

pub returns-in_err-accepted-clause-err : goal.returns-in_err-accepted-clause-err
returns-in_err-accepted-clause-err g c =
    passed_on _ _ _ c.from_residual.ensures.1
    (FailsWithin-in_lines _ _ _ _ _ _ c.loop-place.invariant c.in_err-accepted.ensures.err)

pub loop-place-preserved : goal.loop-place-preserved
loop-place-preserved g c = rw (take_rest _ _) (AnswersUpTo-more _ _ _ _ _ _ _ c.loop-place.invariant
    (cuts_first _ _ c.in-Some.ensures.0 c.in-Some.ensures.1) c.in_ok-accepted.ensures.ok)

pub returns-clause-ok : goal.returns-clause-ok
returns-clause-ok g c = c.loop-place.invariant

pub returns-clause-unbroken : goal.returns-clause-unbroken
returns-clause-unbroken g c = unbroken_nowhere _ c.in_default.ensures
