use Rattle.std.proofs.lemmas.Result.{on_ok_weaker, IfErr-weaker}
use Rattle.gix_config_value.proofs.StepLemmas.{Advances-lines, FailsWithin-in_lines}
use Rattle.gix_config_value.proofs.program.Progress.take_lines.Goals as goal

pub returns-clause-ok : goal.returns-clause-ok
returns-clause-ok g c =
    on_ok_weaker _ (Advances-lines _ _ _ _ _ c.in_ok-begun.ensures.ok c.in_ok-begun.ensures.unbroken)
    c.gather.ensures.ok

pub returns-clause-err : goal.returns-clause-err
returns-clause-err g c =
    IfErr-weaker _ _ _ (λ e. FailsWithin-in_lines _ _ _ _ _ e c.in_ok-begun.ensures.ok) c.gather.ensures.err
