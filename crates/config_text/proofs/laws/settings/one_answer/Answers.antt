use Rattle.config_text.proofs.OneAnswer.{one_answer_by}
use Rattle.config_text.proofs.laws.settings.one_answer.Goals as goal

pub returns : goal.returns
returns g c = one_answer_by g.V.Value.grammar g.met.V.Value.one_value
