use Rattle.std.proofs.Common.{rules, refl}
use Rattle.config_file.specs.Header.{within, closed, closed_at_line_end, closes}
use Rattle.config_file.proofs.header.read_subsection.Goals as goal

pub returns-in-Err : goal.returns-in-Err
returns-in-Err c = rw (c.stop_at.ensures.lines, c.stop_at.ensures.why) (within c.in-Err.ensures)

pub returns-in-Some : goal.returns-in-Some
returns-in-Some c = closes (rw c.in-Some.ensures at c.in-Ok.ensures) refl

pub returns-then-is_at_line_end : goal.returns-then-is_at_line_end
returns-then-is_at_line_end c = closed_at_line_end c.in-Ok.ensures (search rules)

pub returns : goal.returns
returns c =
    rw (c.stop_at-2.ensures.lines, c.stop_at-2.ensures.why) (closed c.in-Ok.ensures c.in_default.ensures (search rules))
