use Rattle.std.proofs.Common.{◌≡◌, ℕ}
use Rattle.config_color.specs.Reading.Depth.{IsBest, number_distance}
use Rattle.config_color.proofs.depth.nearest_of.Given as goal

abbrev pub invariant-loop-number : goal.invariant-loop-number
invariant-loop-number l =
    record {
      found : (low : ℕ) → IsBest (number_distance l.shade) low l.first l.best
          → IsBest (number_distance l.shade) low l.number l.found;
      least : l.least ≡ number_distance l.shade l.found;
    }
