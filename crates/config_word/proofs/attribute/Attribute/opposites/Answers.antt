use Rattle.std.proofs.Common.{◌≡◌, arith}
use Rattle.std.proofs.lemmas.Grind.{common_steps}
use Rattle.config_word.specs.Reading.Attribute.{opposite_rows, opposites_from}
use Rattle.config_word.proofs.Opposites.{has_opposites}
use Rattle.config_word.proofs.attribute.Attribute.opposites.Goals as goal

pub returns : goal.returns
returns c =
    let found : c.loop-shown.opposites.0 ≡ opposites_from c.args.self.0 0 opposite_rows = grind (arith, common_steps) in
    has_opposites c.args.self.0 c.loop-shown.opposites found
