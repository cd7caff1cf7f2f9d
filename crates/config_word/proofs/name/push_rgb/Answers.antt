use Rattle.std.proofs.Common.{arith, ◌≤◌}
use Rattle.config_word.proofs.HexDigits.{rgb_utf8}
use Rattle.config_word.proofs.name.push_rgb.Goals as goal

pub returns-in_default : goal.returns-in_default
returns-in_default c =
    let red : c.args.red ≤ 255 = omega (arith, c.ranges.red.fits) in
    let green : c.args.green ≤ 255 = omega (arith, c.ranges.green.fits) in
    let blue : c.args.blue ≤ 255 = omega (arith, c.ranges.blue.fits) in
    let text = rgb_utf8 c.args.red c.args.green c.args.blue red green blue in
    absurd (c.in_default.ensures.cases.0 (rw c.rgb_bytes-bytes.ensures text))
