use Rattle.std.proofs.Common.{◌≡◌, ◌++◌, List, ℕ, length}
use Rattle.config_edit.specs.Cut.{AreBlank}
use Rattle.config_edit.proofs.write.trimmed.Given as goal

abbrev pub invariant-blanks : goal.invariant-blanks
invariant-blanks l = (blanks : List ℕ) × (l.fn.text ≡ l.front ++ blanks) × AreBlank blanks

abbrev pub decreases-blanks : goal.decreases-blanks
decreases-blanks l = length l.front
