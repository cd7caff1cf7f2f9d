use Rattle.std.proofs.lemmas.Result.{IfOk-weaker}
use Rattle.config_checks.proofs.FixLemmas.{safe_name}
use Rattle.config_checks.proofs.fix.is_safe_name.Goals as goal

pub returns-in-Some : goal.returns-in-Some
returns-in-Some c =
    IfOk-weaker c.is_typing_error.result _ _
    (λ b mistyped. safe_name c.args.setting.now c.args.name.now _ b
    (rw c.deref.ensures.value at c.in-Some.ensures) (rw c.name.ensures at mistyped))
    c.is_typing_error.ensures
