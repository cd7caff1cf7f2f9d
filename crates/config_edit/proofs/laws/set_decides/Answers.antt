use Rattle.config_edit.proofs.Decided.{set_decides, replaced_all_decides, one_added_decides}
use Rattle.config_edit.proofs.laws.set_decides.Goals as goal

pub returns-clause-set : goal.returns-clause-set
returns-clause-set c = set_decides

pub returns-clause-replaced : goal.returns-clause-replaced
returns-clause-replaced c = replaced_all_decides

pub returns-clause-added : goal.returns-clause-added
returns-clause-added c = one_added_decides
