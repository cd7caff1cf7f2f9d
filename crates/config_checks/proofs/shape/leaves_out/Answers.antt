use Rattle.std.specs.Prelude.{option_copied}
use Rattle.config_checks.specs.Shapes.{IsLeftOut}
use Rattle.config_checks.proofs.ShapeLemmas.{by_cut}
use Rattle.config_checks.proofs.shape.leaves_out.Goals as goal

pub returns : goal.returns
returns c = by_cut IsLeftOut c.args.rest.now c.sides_of.result.0.now (option_copied c.sides_of.result.1)
    c.is_left_out.result c.sides_of.ensures c.is_left_out.ensures
