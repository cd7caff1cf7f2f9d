use Rattle.std.proofs.Common.{◌≡◌, ◌++◌, take, map}
use Rattle.std.specs.Char.{to_ascii_lowercase}
use Rattle.config_file.proofs.key.strip_lower.Given as goal

abbrev pub invariant-loop-byte : goal.invariant-loop-byte
invariant-loop-byte l = l.text ≡ map to_ascii_lowercase (take l.byte-index l.front) ++ l.rest
