use Rattle.config_file.proofs.Commands.{nothing_quoted}
use Rattle.config_file.proofs.command.closed.Goals as goal

pub returns-in-End : goal.returns-in-End
returns-in-End c = λ q r h.
    let (more, left) = c.pieces.invariant.only q r h in
    nothing_quoted c.in-End.ensures left
