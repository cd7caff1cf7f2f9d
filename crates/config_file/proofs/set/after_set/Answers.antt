use Rattle.std.proofs.Common.{sym, ◌∙◌}
use Rattle.config_file.proofs.Sets.{stands_unwanted}
use Rattle.config_file.proofs.set.after_set.Goals as goal

pub returns-else-is_wanted : goal.returns-else-is_wanted
returns-else-is_wanted c =
    stands_unwanted c.opened-is_negated.ensures c.in_ok-found.ensures (sym c.is_wanted.ensures ∙ c.if-is_wanted.false)
