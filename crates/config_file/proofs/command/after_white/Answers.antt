use Rattle.config_file.proofs.Commands.{run_after}
use Rattle.config_file.proofs.command.after_white.Goals as goal

pub returns-clause-run : goal.returns-clause-run
returns-clause-run c = run_after c.white_length.ensures.count c.split_at.ensures.back
