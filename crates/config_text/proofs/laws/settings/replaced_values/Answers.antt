use Rattle.config_text.proofs.ReplacedValues.{replaced_answers}
use Rattle.config_text.proofs.laws.settings.replaced_values.Goals as goal

pub returns : goal.returns
returns g c = replaced_answers g.V.Value.grammar g.V.Value.canonical g.met.V.Value.one_value
