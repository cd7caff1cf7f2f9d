use Rattle.std.proofs.Common.{refl}
use Rattle.config_file.proofs.Commands.{run_both}
use Rattle.config_file.proofs.command.cut.Goals as goal

pub returns-in-Some : goal.returns-in-Some
returns-in-Some c = (
  c.split_at.result.1.now,
  run_both c.key_length.ensures.count c.split_at.ensures.front c.split_at.ensures.back,
  rw c.in-Some.ensures refl,
)

pub returns-in-None : goal.returns-in-None
returns-in-None c = (
  c.split_at.result.1.now,
  run_both c.key_length.ensures.count c.split_at.ensures.front c.split_at.ensures.back,
  rw c.in-None.ensures refl,
)
