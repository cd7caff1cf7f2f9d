use Rattle.config_color.proofs.Nearest.{best_alone, best_nearest}
use Rattle.config_color.specs.Reading.Depth.{number_distance}
use Rattle.config_color.proofs.depth.nearest_of_16.Goals as goal

pub returns : goal.returns
returns c = best_nearest c.args.shade 0 15 c.nearest_of.result
    (c.nearest_of.ensures 0 (best_alone (number_distance c.args.shade) 0))
