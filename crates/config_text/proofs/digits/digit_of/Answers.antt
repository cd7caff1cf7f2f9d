use Rattle.std.proofs.Common.{arith, rules}
use Rattle.config_text.proofs.DigitRows.{is_digit, is_other, is_most}
use Rattle.config_text.proofs.digits.digit_of.Goals as goal

pub returns-clause-digit : goal.returns-clause-digit
returns-clause-digit c = is_digit c.args.byte _ (omega (arith, c.ranges.byte)) (search rules)

pub returns-clause-other : goal.returns-clause-other
returns-clause-other c = is_other c.args.byte _ (omega (arith, c.ranges.byte)) (search rules)

pub returns-clause-most : goal.returns-clause-most
returns-clause-most c = is_most c.args.byte _ (omega (arith, c.ranges.byte)) (search rules)
