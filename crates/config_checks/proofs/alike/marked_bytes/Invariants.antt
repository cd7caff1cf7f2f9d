use Rattle.std.proofs.Common.{◌≡◌, length, take}
use Rattle.std.specs.List.{All}
use Rattle.config_checks.specs.Reading.Steps.{IsMarkedByte}
use Rattle.config_checks.proofs.alike.marked_bytes.Given as goal

abbrev pub invariant-loop-byte : goal.invariant-loop-byte
invariant-loop-byte l = (length l.bytes ≡ 256) × All (IsMarkedByte l.bytes) (take l.byte-index l.name)
