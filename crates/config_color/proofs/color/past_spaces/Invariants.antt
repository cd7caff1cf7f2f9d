use Rattle.std.proofs.Common.{◌≡◌, ◌≤◌, length}
use Rattle.config_color.specs.Reading.Split.{words}
use Rattle.config_color.proofs.color.past_spaces.Given as goal

abbrev pub invariant-loop-rest : goal.invariant-loop-rest
invariant-loop-rest l = (words l.rest ≡ words l.text) × (length l.rest ≤ length l.text)

abbrev pub decreases-loop-rest : goal.decreases-loop-rest
decreases-loop-rest l = length l.rest
