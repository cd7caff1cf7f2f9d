use Rattle.std.proofs.Common.{length}
use Rattle.gix_config_value.specs.Reading.Steps.{run_state, AnswersUpTo}
use Rattle.gix_config_value.proofs.program.Progress.answer_lines.Given as goal

abbrev pub invariant-loop-place : goal.invariant-loop-place
invariant-loop-place g l = AnswersUpTo (run_state g.W.Write.contents l.fn.self l.fn.output)
    (run_state g.W.Write.contents l.self l.output) l.fn.bytes l.rest

abbrev pub decreases-loop-place : goal.decreases-loop-place
decreases-loop-place g l = length l.rest
