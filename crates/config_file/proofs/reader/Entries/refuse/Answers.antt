use Rattle.std.proofs.Common.{refl}
use Rattle.config_file.proofs.Readings.{none_left}
use Rattle.config_file.proofs.reader.Entries.refuse.Goals as goal

pub returns-clause-left : goal.returns-clause-left
returns-clause-left c = none_left _ refl
