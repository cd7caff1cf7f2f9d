use Rattle.config_file.proofs.Plain.{between_blanks, unmarked_after}
use Rattle.config_file.proofs.value.Value.trimmed.Goals as goal

pub returns : goal.returns
returns c = λ all spelled ending s. rw c.last_blanks.ensures.count
    (between_blanks c.run.ensures (unmarked_after c.run.result.0.now c.run.result.1.now c.run.ensures.joined all) s)
