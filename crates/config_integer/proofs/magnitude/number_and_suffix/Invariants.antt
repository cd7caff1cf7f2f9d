use Rattle.std.proofs.Common.{◌≡◌, ◌<◌, ◌≤◌, drop, slice_index}
use Rattle.std.specs.Char.{digit_value}
use Rattle.config_integer.specs.Reading.Integer.{number_from}
use Rattle.config_integer.proofs.magnitude.number_and_suffix.Given as goal

abbrev pub invariant-loop-at : goal.invariant-loop-at
invariant-loop-at l =
    (number_from l.base l.limit 0 l.text ≡ number_from l.base l.limit l.number (drop l.at l.text))
    × (0 < l.at → digit_value (slice_index l.text 0) < l.base)
    × (l.number ≤ l.limit)
