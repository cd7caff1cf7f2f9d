use Rattle.config_integer.specs.Laws.Integer.{one_refusal}
use Rattle.config_integer.proofs.laws.refusals.one_refusal.Goals as goal

pub returns : goal.returns
returns g c = one_refusal _
