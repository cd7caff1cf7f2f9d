use Rattle.gix_config_value_c.proofs.OneMark.{cuts_once}
use Rattle.gix_config_value_c.proofs.laws.answers.marks.Goals as goal

pub returns : goal.returns
returns c = cuts_once
