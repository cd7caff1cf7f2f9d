use Rattle.gix_config_value.specs.Reading.Steps.{run_state, start, HasAnswered}
use Rattle.gix_config_value.proofs.program.answer_input.Given as goal

abbrev pub invariant-loop : goal.invariant-loop
invariant-loop g l = HasAnswered (g.R.Read.remaining l.fn.reader) (g.R.Read.remaining l.reader)
    (start l.fn.output.writer.ghost_name (g.W.Write.contents l.fn.output.writer.now))
    (run_state g.W.Write.contents l.progress l.output)
