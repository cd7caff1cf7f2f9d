use Rattle.gix_config_value.proofs.StepLemmas.{Advances-completed}
use Rattle.gix_config_value.proofs.program.Progress.end_line.Goals as goal

pub returns-clause-ok : goal.returns-clause-ok
returns-clause-ok g c = Advances-completed _ _ _ _ _ _ c.requires c.in_ok-gather.ensures.ok
    (rw c.as_slice.ensures.value at c.in_ok-accepted.ensures.ok) c.clear.ensures.items
