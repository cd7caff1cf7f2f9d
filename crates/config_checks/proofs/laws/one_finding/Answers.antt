use Rattle.config_checks.proofs.OneFinding.{finding_once}
use Rattle.config_checks.proofs.laws.one_finding.Goals as goal

pub returns : goal.returns
returns c = finding_once
