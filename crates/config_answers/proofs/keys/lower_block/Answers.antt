use Rattle.std.proofs.Common.{w8, refl}
use Rattle.std.proofs.lemmas.Simd.{length-chunk, chunk-fits, below_from_Fits}
use Rattle.config_answers.proofs.KeyLemmas.{lower_lanes}
use Rattle.config_answers.proofs.keys.lower_block.Goals as goal

pub returns : goal.returns
returns g c =
    lower_lanes _ _ _ refl g.row.N _ (length-chunk c.args.at g.row.N c.args.name.now c.requires)
    (below_from_Fits w8 _ (chunk-fits w8 c.args.at g.row.N c.args.name.now c.type_inv.name))
