use Rattle.std.proofs.Common.{◌≡◌, ◌∙◌, ap, arith}
use Rattle.config_color.proofs.Nearest.{best_next, best_stays}
use Rattle.config_color.specs.Depth.{distance}
use Rattle.config_color.proofs.depth.nearest_of.Goals as goal
use Rattle.config_color.proofs.depth.nearest_of.Goals.{then-apart-least, else-apart-least}

pub loop-number-preserved : goal.loop-number-preserved
loop-number-preserved c =
    let apart = c.distance_between-apart.ensures
    ∙ ap (λ p. distance c.args.shade p) c.shade_of-in-loop-number.ensures in
    let before = c.loop-number.invariant in
    elim c.if-apart-least.branch [
      | then-apart-least w ↦ record {
        found = λ low h.
            rw w.found-is (best_next (before.found low h) apart before.least w.if-apart-least.true);
        least = rw (w.found-is, w.least-is) apart;
      }
      | else-apart-least w ↦ record {
        found = λ low h.
            rw w.found-is (best_stays (before.found low h) apart before.least w.if-apart-least.false);
        least = rw (w.found-is, w.least-is) before.least;
      }
    ]

pub returns-after-apart-least : goal.returns-after-apart-least
returns-after-apart-least c =
    let apart = c.distance_between-apart.ensures
    ∙ ap (λ p. distance c.args.shade p) c.shade_of-in-loop-number.ensures in
    let before = c.loop-number.invariant in
    let at : c.args.last ≡ c.loop-number.number = omega arith in
    elim c.if-apart-least.branch [
      | then-apart-least w ↦ λ low h. rw (w.found-is, at)
          (best_next (before.found low h) apart before.least w.if-apart-least.true)
      | else-apart-least w ↦ λ low h. rw (w.found-is, at)
          (best_stays (before.found low h) apart before.least w.if-apart-least.false)
    ]
