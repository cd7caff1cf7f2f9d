use Rattle.config_color.proofs.Nearest.{best_nearest}
use Rattle.config_color.proofs.depth.nearest_of_240.Goals as goal

pub returns : goal.returns
returns c = best_nearest c.args.shade 16 255 c.nearest_of.result
    (c.nearest_of.ensures 16 c.nearest_in_cube.ensures)
