use Rattle.std.proofs.lemmas.List.Elements.{All-nil}
use Rattle.config_file.proofs.OneAddition.{file_keeps_listed}
use Rattle.config_file.proofs.laws.settings.added_are_listed.Goals as goal

pub returns-clause-none : goal.returns-clause-none
returns-clause-none c = All-nil _

pub returns-clause-file : goal.returns-clause-file
returns-clause-file c = file_keeps_listed
