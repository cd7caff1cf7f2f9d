use Rattle.std.proofs.Common.{sym}
use Rattle.config_edit.specs.Cut.{marked, unmarked}
use Rattle.config_edit.proofs.split_mark.Goals as goal

pub returns-in-Some : goal.returns-in-Some
returns-in-Some c = marked (sym c.in-Some.ensures)

pub returns-in-None : goal.returns-in-None
returns-in-None c = unmarked (sym c.in-None.ensures)
