use Rattle.std.proofs.Common.{length, drop}
use Rattle.config_edit.specs.Reading.{Changing}
use Rattle.config_edit.proofs.each.change_each.Given as goal

abbrev pub invariant-pieces : goal.invariant-pieces
invariant-pieces l = Changing l.fn.changes l.fn.text l.rest (drop l.made l.fn.changes) l.new.items l.index

abbrev pub decreases-pieces : goal.decreases-pieces
decreases-pieces l = length l.rest
