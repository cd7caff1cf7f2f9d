use Rattle.config_file.proofs.OneGet as lemma
use Rattle.config_file.proofs.laws.settings.one_get.Goals as goal

pub returns : goal.returns
returns g c settings key a b one = lemma.one_get g.V.Value.grammar g.V.TryRead.refusal settings key one a b
