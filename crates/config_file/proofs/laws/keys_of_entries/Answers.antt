use Rattle.config_file.proofs.EachListed.{keys_of_entries}
use Rattle.config_file.proofs.laws.keys_of_entries.Goals as goal

pub returns : goal.returns
returns c text written entries error key is cut = keys_of_entries is cut
