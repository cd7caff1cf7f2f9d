use Rattle.std.proofs.Common.{take}
use Rattle.config_checks.specs.Reading.Steps.{AreMarked}
use Rattle.config_checks.proofs.marks.marks_of.Given as goal

abbrev pub invariant-loop-row : goal.invariant-loop-row
invariant-loop-row l = AreMarked (take l.row-index l.rows) l.marks.items
