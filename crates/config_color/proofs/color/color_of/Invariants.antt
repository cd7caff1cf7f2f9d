use Rattle.std.proofs.Common.{◌≡◌, length}
use Rattle.config_color.specs.Reading.Color.{read_from}
use Rattle.config_color.specs.Color.{no_color}
use Rattle.config_color.specs.Reading.Split.{words}
use Rattle.config_color.proofs.color.color_of.Given as goal

abbrev pub invariant-loop-rest : goal.invariant-loop-rest
invariant-loop-rest l = read_from no_color (words l.fn.input) ≡ read_from l.color (words l.rest)

abbrev pub decreases-loop-rest : goal.decreases-loop-rest
decreases-loop-rest l = length l.rest
