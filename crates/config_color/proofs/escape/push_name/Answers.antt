use Rattle.std.proofs.Common.{◌+◌, arith}
use Rattle.config_color.proofs.EscapeLemmas.{continues_within, of_two}
use Rattle.config_color.proofs.escape.push_name.Goals as goal

pub returns-in-Default : goal.returns-in-Default
returns-in-Default c =
    let one = of_two (c.args.black + 9) (omega (arith, c.requires.black)) c.push_number.ensures in
    rw c.in-Default.is (continues_within _ 3 17 _ _ one (omega arith))
