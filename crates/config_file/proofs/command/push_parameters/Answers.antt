use Rattle.std.proofs.Common.{◌++◌, ap, ◌∙◌}
use Rattle.config_file.specs.Command.{format}
use Rattle.config_file.proofs.Commands.{passed_on, memory_of_format}
use Rattle.config_file.proofs.command.push_parameters.Goals as goal

pub returns-in_err-extend_from_slice : goal.returns-in_err-extend_from_slice
returns-in_err-extend_from_slice c =
    passed_on _ _ c.from_residual-in_err-extend_from_slice.result c.from_residual-in_err-extend_from_slice.ensures
    (λ e is. (format (memory_of_format c.args.parameters.now e _ is), c.in_err-extend_from_slice.ensures.items))

pub returns : goal.returns
returns c =
    let (settings, are, adds) = c.in_ok-lines.ensures in (
      settings,
      are,
      (
        c.in_ok-lines.lines.items,
        adds,
        c.in_ok-extend_from_slice.ensures.items ∙ ap (λ x. c.args.text.now.items ++ x) c.deref.ensures.value,
      ),
    )
