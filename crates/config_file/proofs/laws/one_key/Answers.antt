use Rattle.config_file.proofs.OneKey.{each_is_answered, one_answer}
use Rattle.config_file.proofs.laws.one_key.Goals as goal

pub returns-clause-each : goal.returns-clause-each
returns-clause-each c = each_is_answered

pub returns-clause-one : goal.returns-clause-one
returns-clause-one c = one_answer
