use Rattle.config_file.proofs.EachReading.{each_is_read}
use Rattle.config_file.proofs.laws.each_is_read.Goals as goal

pub returns : goal.returns
returns c = each_is_read
