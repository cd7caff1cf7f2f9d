use Rattle.std.proofs.Common.{refl}
use Rattle.config_file.proofs.Steps.{nothing_left}
use Rattle.config_file.proofs.walk.FrameDefault.default.Goals as goal

pub returns : goal.returns
returns c = (refl, refl, nothing_left c.new.result c.new.ensures.begins, refl)
