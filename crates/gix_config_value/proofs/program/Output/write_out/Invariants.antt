use Rattle.std.proofs.Common.{[], length}
use Rattle.gix_config_value.specs.Reading.Steps.{output_state, SendsBytes}
use Rattle.gix_config_value.proofs.program.Output.write_out.Given as goal

abbrev pub invariant-loop-rest : goal.invariant-loop-rest
invariant-loop-rest g l = SendsBytes (output_state g.W.Write.contents l.fn.self)
    (record {
      writer = l.self.1.1.0.ghost_name;
      held = g.W.Write.contents l.self.1.1.0.now;
      waiting = l.rest;
    }) []

abbrev pub decreases-loop-rest : goal.decreases-loop-rest
decreases-loop-rest g l = length l.rest
