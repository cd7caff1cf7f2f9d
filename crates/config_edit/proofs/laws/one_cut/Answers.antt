use Rattle.config_edit.proofs.Cuts.{one_cut}
use Rattle.config_edit.proofs.laws.one_cut.Goals as goal

pub returns : goal.returns
returns c = λ text parts also first second. one_cut text parts also first second
