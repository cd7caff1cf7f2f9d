use Rattle.std.proofs.Common.{arith}
use Rattle.std.proofs.lemmas.Slice.{drop-put_mid}
use Rattle.gix_config_value_c.proofs.buffer.push.Goals as goal

pub returns-clause-behind : goal.returns-clause-behind
returns-clause-behind c =
    let room = c.requires in
    λ n h. drop-put_mid c.args.at _ c.args.buffer.now c.copy_from_slice.new.self n (omega arith) (omega arith) (grind (arith, c.copy_from_slice.ensures))
