use Rattle.config_file.specs.Reading.Commands.{minus, after_plus, empty, no_sign}
use Rattle.config_file.proofs.command.cut_sign.Goals as goal

pub returns-in_default : goal.returns-in_default
returns-in_default c = rw c.in_default.ensures empty

pub returns-then-first-eq45 : goal.returns-then-first-eq45
returns-then-first-eq45 c = rw c.in-Some.ensures (minus c.if-first-eq45.true)

pub returns-then-first-eq43 : goal.returns-then-first-eq43
returns-then-first-eq43 c = rw c.in-Some.ensures (after_plus c.if-first-eq43.true)

pub returns : goal.returns
returns c = rw c.in-Some.ensures (no_sign c.if-first-eq45.false c.if-first-eq43.false)
