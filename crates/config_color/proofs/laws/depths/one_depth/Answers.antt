use Rattle.config_color.specs.Terminal.{depth_rules}
use Rattle.config_color.proofs.Deciding.{one_decision}
use Rattle.config_color.proofs.laws.depths.one_depth.Goals as goal

pub returns : goal.returns
returns c = λ is_terminal no_color term colorterm.
    one_decision (depth_rules is_terminal no_color term colorterm)
