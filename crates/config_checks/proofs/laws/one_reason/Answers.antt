use Rattle.config_checks.proofs.OneFinding.{reason_once}
use Rattle.config_checks.proofs.laws.one_reason.Goals as goal

pub returns : goal.returns
returns c = reason_once
