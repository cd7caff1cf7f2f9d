use Rattle.config_checks.proofs.MendedAgain.{mended_again}
use Rattle.config_checks.proofs.laws.mended_again.Goals as goal

pub returns : goal.returns
returns c = mended_again
