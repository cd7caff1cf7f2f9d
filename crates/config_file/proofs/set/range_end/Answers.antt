use Rattle.std.proofs.Common.{refl}
use Rattle.config_file.specs.Set.{to}
use Rattle.config_file.proofs.set.range_end.Goals as goal

pub returns : goal.returns
returns c = rw c.in_ok-after.ensures (to refl c.in_ok-last.ensures)
