use Rattle.std.proofs.Common.{◌≡◌, ◌≢◌, ◌<◌, [], length, arith, rules, subst, sym}
use Rattle.config_file.specs.Command.{AddsSettings, RefusesParameter, format, this}
use Rattle.config_file.specs.declared.command.CommandError.TheVariants.{BadFormat}
use Rattle.config_file.specs.Reading.Commands.{parameter_of}
use Rattle.std.proofs.lemmas.List.{nil_from_length}
use Rattle.config_file.proofs.Commands.{some_left, passed_on, memory_of_format, adds_none}
use Rattle.config_file.proofs.Commands.{parameter_shortens, settings_next, refused_later, all_settings}
use Rattle.config_file.proofs.command.lines_of.Goals as goal

pub parameters-init : goal.parameters-init
parameters-init c =
    let adds : AddsSettings c.new-lines.result.items [] = rw c.new-lines.ensures.items adds_none in
    record { done = ([], adds, λ more h. h); refused = λ error h. h }

pub returns-in_err-parameter : goal.returns-in_err-parameter
returns-in_err-parameter c =
    passed_on _ _ c.from_residual.result c.from_residual.ensures
    (λ e is. c.parameters.invariant.refused e (format (memory_of_format c.parameters.at.now e _ is)))

pub returns-in_default : goal.returns-in_default
returns-in_default c =
    let lacks = rw c.in_default.is at c.in_ok-parameter.ensures in
    let some : c.parameters.at.now ≢ [] = some_left _ (search rules) in
    c.parameters.invariant.refused BadFormat (format (some, lacks))

pub returns-in_err-push_parameter : goal.returns-in_err-push_parameter
returns-in_err-push_parameter c =
    let takes = rw c.in-Some.is at c.in_ok-parameter.ensures in
    passed_on _ _ c.from_residual-in_err-push_parameter.result c.from_residual-in_err-push_parameter.ensures
    (λ e is. c.parameters.invariant.refused e
    (this takes (subst (λ x. RefusesParameter (parameter_of c.in-Some.field-0.parameter) x) (sym is) c.in_err-push_parameter.ensures)))

pub parameters-smaller : goal.parameters-smaller
parameters-smaller c =
    let takes = rw c.in-Some.is at c.in_ok-parameter.ensures in
    let shorter = parameter_shortens takes in
    let less : length c.after_white-at.result.now < length c.parameters.at.now =
    omega (arith, shorter, c.after_white-at.ensures.within) in less

pub parameters-preserved : goal.parameters-preserved
parameters-preserved c =
    let takes = rw c.in-Some.is at c.in_ok-parameter.ensures in
    let (white, run) = c.after_white-at.ensures.run in
    let pushed = c.in_ok-push_parameter.ensures in
    record {
      done = settings_next c.args.parameters.now takes run c.parameters.lines.items
          c.push_parameter.new.lines.items c.parameters.invariant.done pushed;
      refused = refused_later c.args.parameters.now takes run c.parameters.lines.items
          c.push_parameter.new.lines.items c.parameters.invariant.refused pushed;
    }

pub returns : goal.returns
returns c =
    let e : c.parameters.at.now ≡ [] = nil_from_length _ (search rules) in
    all_settings c.args.parameters.now c.parameters.at.now c.parameters.lines.items e c.parameters.invariant.done
