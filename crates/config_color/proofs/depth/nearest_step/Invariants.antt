use Rattle.std.proofs.Common.{◌≡◌}
use Rattle.config_color.specs.Reading.Depth.{IsBest, step_distance}
use Rattle.config_color.proofs.depth.nearest_step.Given as goal

abbrev pub invariant-loop-step : goal.invariant-loop-step
invariant-loop-step l =
    record {
      best : IsBest (step_distance l.byte) 0 l.step l.best;
      least : l.least ≡ step_distance l.byte l.best;
    }
