use Rattle.std.proofs.Common.{◌≡◌, ℕ, List, ◌++◌, length, flat_map}
use Rattle.std.specs.Fmt.{HasWritten, IsPlainFormatter}
use Rattle.config_file.specs.Shown.{hex}
use Rattle.config_file.proofs.shown.write_hex.Given as goal

abbrev pub invariant-bytes : goal.invariant-bytes
invariant-bytes g l =
    IsPlainFormatter l.fn.f
    → (done : List ℕ) × HasWritten g.W.Write.write_str_gives l.fn.f done l.f
    × (done ++ flat_map hex l.rest ≡ flat_map hex l.fn.bytes)

abbrev pub decreases-bytes : goal.decreases-bytes
decreases-bytes g l = length l.rest
