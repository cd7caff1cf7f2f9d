use Rattle.std.proofs.Common.{◌∙◌, ap}
use Rattle.std.proofs.lemmas.Result.{IfOk-weaker, on_err_weaker}
use Rattle.config_checks.specs.Rows.{rows_of}
use Rattle.config_checks.proofs.CheckLemmas.{fails_starting, fails_telling, completes}
use Rattle.config_checks.proofs.check.check_file.Goals as goal

pub returns-in-Err-clause-fails : goal.returns-in-Err-clause-fails
returns-in-Err-clause-fails g c = fails_starting _ _ _ _ _

pub returns-in-Err-marks_of-clause-fails : goal.returns-in-Err-marks_of-clause-fails
returns-in-Err-marks_of-clause-fails g c = fails_starting _ _ _ _ _

pub returns-clause-completes : goal.returns-clause-completes
returns-clause-completes g c =
    let all = rw (ap rows_of c.deref.ensures.value ∙ c.in-Ok.ensures) at c.in_ok-counts.ensures.ok in
    IfOk-weaker c.tell.result _ _ (λ after told.
    completes _ _ _ _ _ _ all.of_file _ _ _ all.all _ after told) c.tell.ensures.ok

pub returns-clause-fails : goal.returns-clause-fails
returns-clause-fails g c =
    let all = rw (ap rows_of c.deref.ensures.value ∙ c.in-Ok.ensures) at c.in_ok-counts.ensures.ok in
    on_err_weaker c.tell.result (λ none.
    fails_telling _ _ _ _ _ _ all.of_file _ _ _ all.all _ none) c.tell.ensures.err
