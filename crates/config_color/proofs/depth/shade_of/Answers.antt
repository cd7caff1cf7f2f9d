use Rattle.std.proofs.Common.{◌≡◌, true, nat_lt, arith}
use Rattle.std.proofs.lemmas.Bool.Decides.{nat_tests}
use Rattle.std.proofs.lemmas.List.{get_or_default}
use Rattle.config_color.specs.Depth.{xterm_colors, shade}
use Rattle.config_color.proofs.depth.shade_of.Goals as goal

pub returns-then-number-lt16 : goal.returns-then-number-lt16
unfolding xterm_colors
returns-then-number-lt16 c =
    let low : nat_lt c.args.number 16 ≡ true = grind (arith, nat_tests) in
    rw low (get_or_default xterm_colors c.args.number _ (shade 0 0 0) (omega arith))
