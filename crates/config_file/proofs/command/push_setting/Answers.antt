use Rattle.std.proofs.Common.{◌++◌, ap, ◌∙◌, option_copied}
use Rattle.config_file.specs.Command.{key_value}
use Rattle.config_file.proofs.Commands.{passed_on, memory_of_setting}
use Rattle.config_file.proofs.command.push_setting.Goals as goal

pub returns-in_err-extend_from_slice : goal.returns-in_err-extend_from_slice
returns-in_err-extend_from_slice c =
    passed_on _ _ c.from_residual-in_err-extend_from_slice.result c.from_residual-in_err-extend_from_slice.ensures
    (λ e is. (memory_of_setting (key_value c.args.key.now (option_copied c.args.value)) e _ is, c.in_err-extend_from_slice.ensures.items))

pub returns : goal.returns
returns c = (
  c.in_ok-line.ensures.0,
  (
    c.in_ok-line.line.items,
    c.in_ok-line.ensures.1,
    c.in_ok-extend_from_slice.ensures.items ∙ ap (λ x. c.args.text.now.items ++ x) c.deref.ensures.value,
  ),
)
