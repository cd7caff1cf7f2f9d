use Rattle.std.proofs.Common.{length, option_copied, Some}
use Rattle.config_edit.specs.Reading.{AreLeft}
use Rattle.config_edit.proofs.removal.at_place.Given as goal

abbrev pub invariant-smaller : goal.invariant-smaller
invariant-smaller l = AreLeft (option_copied l.fn.places) (Some l.left) l.fn.index

abbrev pub decreases-smaller : goal.decreases-smaller
decreases-smaller l = length l.left
