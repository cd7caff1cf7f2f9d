use Rattle.std.proofs.Common.{rules, refl}
use Rattle.config_file.specs.Reading.Scans.{line}
use Rattle.config_file.proofs.Values.{escape_some, line_end_after_return, letter_lines, line_lines, return_lines}
use Rattle.config_file.proofs.value.after_escape.Goals as goal

pub returns-then-is_some-clause-escapes : goal.returns-then-is_some-clause-escapes
returns-then-is_some-clause-escapes c =
    (escape_some c.in_ok-letter.ensures (search rules), letter_lines c.in_ok-letter.ensures (search rules))

pub returns-then-letter-eq10-clause-escapes : goal.returns-then-letter-eq10-clause-escapes
returns-then-letter-eq10-clause-escapes c =
    (line c.in_ok-letter.ensures c.if-letter-eq10.true, line_lines c.in_ok-letter.ensures c.if-letter-eq10.true)

pub returns-then-letter-eq13-clause-escapes : goal.returns-then-letter-eq13-clause-escapes
returns-then-letter-eq13-clause-escapes c = (
  line_end_after_return c.in_ok-letter.ensures c.in_ok-after.ensures c.if-letter-eq13.true refl,
  return_lines c.in_ok-letter.ensures c.in_ok-after.ensures c.if-letter-eq13.true refl,
)
