use Rattle.std.proofs.Common.{sym, ◌∙◌}
use Rattle.gix_config_value.proofs.StepLemmas.{passed_on}
use Rattle.gix_config_value.proofs.RunLemmas.{some_line, EndsEarly-first, EndsAnswered-line, EndsEarly-line}
use Rattle.gix_config_value.proofs.program.Progress.finish.Goals as goal

pub returns-in_err-accepted-clause-err : goal.returns-in_err-accepted-clause-err
returns-in_err-accepted-clause-err g c = passed_on _ _ _ c.from_residual-in_err-accepted.ensures.1
    (EndsEarly-first _ _ _ c.in_err-accepted.ensures.err c.in_err-accepted.ensures.write)

pub returns-in_err-end-2-clause-err : goal.returns-in_err-end-2-clause-err
returns-in_err-end-2-clause-err g c = passed_on _ _ _ c.from_residual-in_err-end-2.ensures.1
    (EndsEarly-line _ _ _ (some_line _ _ (rw c.as_slice.ensures.value at c.as_slice.ensures.len)
    (sym c.is_empty.ensures ∙ c.if-is_empty.false))
    (rw c.as_slice.ensures.value at c.in_ok-accepted.ensures.ok)
    _ _ c.in_err-end-2.ensures.err c.in_err-end-2.ensures.write)

pub returns-clause-ok : goal.returns-clause-ok
returns-clause-ok g c =
    EndsAnswered-line _ _ _ (some_line _ _ (rw c.as_slice.ensures.value at c.as_slice.ensures.len)
    (sym c.is_empty.ensures ∙ c.if-is_empty.false))
    (rw c.as_slice.ensures.value at c.in_ok-accepted.ensures.ok)
    _ c.in_ok-end-2.ensures.ok c.in_ok-end-2.ensures.empty
