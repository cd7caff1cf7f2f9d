use Rattle.config_edit.proofs.OneEdit.{one_set, one_replaced, one_added, one_changed}
use Rattle.config_edit.proofs.laws.one_result.Goals as goal

pub returns-clause-set : goal.returns-clause-set
returns-clause-set c = one_set

pub returns-clause-replaced : goal.returns-clause-replaced
returns-clause-replaced c = one_replaced

pub returns-clause-added : goal.returns-clause-added
returns-clause-added c = one_added

pub returns-clause-changed : goal.returns-clause-changed
returns-clause-changed c = one_changed
