use Rattle.std.proofs.Common.{◌≡◌, ◌<◌, ◌≤◌, ℕ, length}
use Rattle.config_integer.specs.Reading.Integer.{number_and_suffix}
use Rattle.config_integer.proofs.magnitude.without_zeros.Given as goal

abbrev pub invariant-loop-rest : goal.invariant-loop-rest
invariant-loop-rest l =
    (base limit : ℕ) → 0 < base → base ≤ 16
    → number_and_suffix base limit l.rest ≡ number_and_suffix base limit l.text

abbrev pub decreases-loop-rest : goal.decreases-loop-rest
decreases-loop-rest l = length l.rest
