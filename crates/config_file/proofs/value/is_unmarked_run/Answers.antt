use Rattle.config_file.proofs.Plain.{unmarked_behind}
use Rattle.config_file.proofs.value.is_unmarked_run.Goals as goal

pub returns : goal.returns
returns c = rw (c.is_unmarked.ensures, c.run.ensures.joined) (unmarked_behind c.run.result.0.now c.run.result.1.now c.run.ensures.pass)
