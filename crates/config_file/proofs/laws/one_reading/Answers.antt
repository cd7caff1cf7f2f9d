use Rattle.config_file.proofs.OneReading.{one_reading}
use Rattle.config_file.proofs.laws.one_reading.Goals as goal

pub returns : goal.returns
returns c = one_reading
