use Rattle.config_color.proofs.Deciding.{none_fails}
use Rattle.config_color.proofs.terminal.is_filled.Goals as goal

pub returns-in-None : goal.returns-in-None
returns-in-None c = none_fails _ c.args.variable c.in-None.is
