use Rattle.gix_config_value.proofs.OneAnswer.{line_outcome}
use Rattle.gix_config_value.proofs.StepLemmas.{line_decided}
use Rattle.gix_config_value.proofs.laws.answers.one_outcome.Goals as goal

pub returns : goal.returns
returns c = record { some = line_decided; one = line_outcome c.every_kind.ensures.one_name }
