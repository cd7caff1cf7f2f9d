use Rattle.std.specs.Prelude.{option_copied}
use Rattle.config_checks.specs.Shapes.{IsFetched}
use Rattle.config_checks.proofs.ShapeLemmas.{by_cut}
use Rattle.config_checks.proofs.shape.are_fetched.Goals as goal

pub returns : goal.returns
returns c = by_cut IsFetched c.args.text.now c.sides_of.result.0.now (option_copied c.sides_of.result.1)
    c.is_fetched.result c.sides_of.ensures c.is_fetched.ensures
