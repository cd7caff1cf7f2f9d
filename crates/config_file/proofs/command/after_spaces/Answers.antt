use Rattle.config_file.proofs.Commands.{run_after}
use Rattle.config_file.proofs.command.after_spaces.Goals as goal

pub returns : goal.returns
returns c = run_after c.space_length.ensures.count c.split_at.ensures.back
