use Rattle.std.proofs.Common.{◌≡◌, ◌≢◌, Some, rules}
use Rattle.std.proofs.lemmas.Result.{IfOk-weaker}
use Rattle.config_checks.specs.declared.code.Code.TheVariants.{NotCanonical, OtherValue}
use Rattle.config_checks.specs.Settings.{value_of}
use Rattle.config_checks.proofs.FixLemmas.{safe_value}
use Rattle.config_checks.proofs.fix.is_safe_value.Goals as goal

pub returns-in-Some : goal.returns-in-Some
returns-in-Some c =
    let setting = c.args.setting.now in
    let value = c.in-Some.value.now in
    let held : value_of setting ≡ Some value = search rules in
    let no_spelling : c.args.code ≢ NotCanonical = search rules in
    let unasked : c.args.code ≢ OtherValue = search rules in
    IfOk-weaker c.is_typing_error.result _ _
    (λ b mistyped. safe_value setting c.args.code c.args.new.now value b held no_spelling unasked mistyped) c.is_typing_error.ensures
