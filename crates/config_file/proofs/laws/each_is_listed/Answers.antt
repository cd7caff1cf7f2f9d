use Rattle.config_file.proofs.EachListed.{entries_are_read}
use Rattle.config_file.proofs.laws.each_is_listed.Goals as goal

pub returns-clause-keys : goal.returns-clause-keys
returns-clause-keys c text entries error is k d within = (entries_are_read is k d within).listed

pub returns-clause-values : goal.returns-clause-values
returns-clause-values c text entries error is k d within = (entries_are_read is k d within).spelled
