use Rattle.std.proofs.lemmas.List.{take_rest}
use Rattle.gix_config_value.proofs.LineLemmas.{unbroken_nowhere, cuts_first}
use Rattle.std.proofs.lemmas.Result.{on_ok_weaker, IfErr-weaker}
use Rattle.gix_config_value.proofs.StepLemmas.{Advances-begun, FailsWithin-first, passed_on}
use Rattle.gix_config_value.proofs.StepLemmas.{taken_after, stopped_after}
use Rattle.gix_config_value.proofs.program.Progress.take_bytes.Goals as goal

pub returns-in_default-clause-ok : goal.returns-in_default-clause-ok
returns-in_default-clause-ok g c =
    on_ok_weaker _ (Advances-begun _ _ _ (unbroken_nowhere _ c.in_default.ensures)) c.gather.ensures.ok

pub returns-in_default-clause-err : goal.returns-in_default-clause-err
returns-in_default-clause-err g c = IfErr-weaker _ _ _ (FailsWithin-first _ _ _) c.gather.ensures.err

pub returns-in_err-end_line-clause-err : goal.returns-in_err-end_line-clause-err
returns-in_err-end_line-clause-err g c =
    passed_on _ _ _ c.from_residual.ensures.1 (FailsWithin-first _ _ _ _ c.in_err-end_line.ensures.err)

pub returns-clause-ok : goal.returns-clause-ok
returns-clause-ok g c =
    on_ok_weaker _ (taken_after _ _ _ _ (cuts_first _ _ c.in-Some.ensures.0 c.in-Some.ensures.1)
    c.in_ok-end_line.ensures.ok _) (rw (take_rest _ _) at c.take_lines-2.ensures.ok)

pub returns-clause-err : goal.returns-clause-err
returns-clause-err g c =
    IfErr-weaker _ _ _ (stopped_after _ _ _ _ (cuts_first _ _ c.in-Some.ensures.0 c.in-Some.ensures.1)
    c.in_ok-end_line.ensures.ok _) (rw (take_rest _ _) at c.take_lines-2.ensures.err)

pub returns-then-is_empty-clause-ok : goal.returns-then-is_empty-clause-ok
returns-then-is_empty-clause-ok g c = c.take_lines.ensures.ok

pub returns-then-is_empty-clause-err : goal.returns-then-is_empty-clause-err
returns-then-is_empty-clause-err g c = c.take_lines.ensures.err

pub end_line-requires : goal.end_line-requires
end_line-requires g c = (cuts_first _ _ c.in-Some.ensures.0 c.in-Some.ensures.1).unbroken
