use Rattle.config_color.proofs.Nearest.{cube_best}
use Rattle.config_color.proofs.depth.nearest_in_cube.Goals as goal

pub returns : goal.returns
returns c = cube_best c.args.shade c.nearest_step-red.result c.nearest_step-green.result
    c.nearest_step-blue.result c.nearest_step-red.ensures c.nearest_step-green.ensures
    c.nearest_step-blue.ensures
