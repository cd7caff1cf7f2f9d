use Rattle.std.proofs.Common.{[], arith}
use Rattle.config_file.proofs.Commands.{adds_none}
use Rattle.config_search.specs.Command.{no_setting}
use Rattle.config_search.proofs.command.Counted.new.Goals as goal

pub returns-clause-counts : goal.returns-clause-counts
returns-clause-counts c = λ system agrees. record {
  settings = [];
  adds = rw c.new.ensures.items adds_none;
  are = no_setting;
  within = omega arith;
  is_count = c.in_ok-count.ensures.count system agrees;
}
