use Rattle.std.proofs.Common.{◌∙◌, ap}
use Rattle.config_color.proofs.Nearest.{best_alone, best_next, best_stays}
use Rattle.config_color.specs.Depth.{square}
use Rattle.std.specs.Int.{abs_diff}
use Rattle.config_color.specs.Reading.Depth.{step_distance}
use Rattle.config_color.proofs.depth.nearest_step.Goals as goal
use Rattle.config_color.proofs.depth.nearest_step.Goals.{then-apart-least, else-apart-least}

pub loop-step-init : goal.loop-step-init
loop-step-init c =
    record {
      best = best_alone (step_distance c.args.byte) 0;
      least = c.squared-least.ensures ∙ ap (λ l. square (abs_diff c.args.byte l)) c.level_of.ensures;
    }

pub loop-step-preserved : goal.loop-step-preserved
loop-step-preserved c =
    let apart = c.squared-apart.ensures
    ∙ ap (λ l. square (abs_diff c.args.byte l)) c.level_of-in-loop-step.ensures in
    let before = c.loop-step.invariant in
    elim c.if-apart-least.branch [
      | then-apart-least w ↦ record {
        best = rw w.best-is (best_next before.best apart before.least w.if-apart-least.true);
        least = rw (w.best-is, w.least-is) apart;
      }
      | else-apart-least w ↦ record {
        best = rw w.best-is (best_stays before.best apart before.least w.if-apart-least.false);
        least = rw (w.best-is, w.least-is) before.least;
      }
    ]
