use Rattle.std.proofs.Common.{◌≡◌, ℕ, List, ◌++◌, encode_utf8_all, map}
use Rattle.std.specs.Char.{to_ascii_lowercase}
use Rattle.std.specs.Fmt.{HasWritten, IsPlainFormatter}
use Rattle.config_file.specs.Key.{lower_shown}
use Rattle.config_file.proofs.shown.write_lower.Given as goal

abbrev pub invariant-loop-character : goal.invariant-loop-character
invariant-loop-character g l =
    IsPlainFormatter l.fn.f
    → (done : List ℕ) × HasWritten g.W.Write.write_str_gives l.fn.f done l.f
    × (done ++ encode_utf8_all (map to_ascii_lowercase l.rest) ≡ lower_shown l.fn.text)
