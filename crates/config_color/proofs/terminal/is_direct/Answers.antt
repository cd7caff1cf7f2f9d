use Rattle.std.proofs.Common.{codes}
use Rattle.config_color.proofs.Deciding.{ends_told, none_fails, some_passes}
use Rattle.config_color.proofs.terminal.is_direct.Goals as goal

pub returns-in-None : goal.returns-in-None
returns-in-None c = none_fails _ c.args.term c.in-None.is

pub returns-in-Some : goal.returns-in-Some
returns-in-Some c =
    some_passes _ c.args.term c.in-Some.name c.in-Some.is c.ends_with.result
    (ends_told c.in-Some.name.now (codes "-direct") c.ends_with.result c.ends_with.ensures.value)
