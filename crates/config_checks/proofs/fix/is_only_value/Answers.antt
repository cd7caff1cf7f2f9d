use Rattle.std.proofs.Common.{◌≡◌, rules}
use Rattle.std.proofs.lemmas.Result.{IfOk-weaker}
use Rattle.config_checks.specs.declared.code.Code.TheVariants.{NotAWord}
use Rattle.config_checks.proofs.fix.is_only_value.Goals as goal

pub returns-then-eq : goal.returns-then-eq
returns-then-eq c =
    let is : c.args.code ≡ NotAWord = search rules in
    IfOk-weaker c.is_only_meant.result _ _ (λ b only.
    ((λ h code. only.0 h), (λ other. only.1 (other is)))) c.is_only_meant.ensures
