use Rattle.config_file.proofs.OneAddition.{walk_keeps_listed}
use Rattle.config_file.proofs.laws.settings.walked_are_listed.Goals as goal

pub returns : goal.returns
returns g c files = walk_keeps_listed (g.S.Files.contents files)
