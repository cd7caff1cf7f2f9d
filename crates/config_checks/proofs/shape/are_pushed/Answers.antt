use Rattle.std.specs.Prelude.{option_copied}
use Rattle.config_checks.specs.Shapes.{IsPushed}
use Rattle.config_checks.proofs.ShapeLemmas.{by_cut}
use Rattle.config_checks.proofs.shape.are_pushed.Goals as goal

pub returns : goal.returns
returns c = by_cut IsPushed c.args.text.now c.sides_of.result.0.now (option_copied c.sides_of.result.1)
    c.is_pushed.result c.sides_of.ensures c.is_pushed.ensures
