use Rattle.std.proofs.Common.{◌≡◌, ℕ, List, ◌++◌, length}
use Rattle.std.specs.Fmt.{HasWritten, IsPlainFormatter}
use Rattle.config_file.specs.Shown.{shown}
use Rattle.config_file.proofs.shown.write_shown.Given as goal

abbrev pub invariant-pieces : goal.invariant-pieces
invariant-pieces g l =
    IsPlainFormatter l.fn.f
    → (done : List ℕ) × HasWritten g.W.Write.write_str_gives l.fn.f done l.f
    × (done ++ shown l.rest ≡ shown l.fn.text)

abbrev pub decreases-pieces : goal.decreases-pieces
decreases-pieces g l = length l.rest
