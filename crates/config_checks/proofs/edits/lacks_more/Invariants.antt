use Rattle.std.proofs.Common.{◌≡◌, ◌+◌, take, length}
use Rattle.std.specs.List.{filter}
use Rattle.std.specs.Prelude.{not}
use Rattle.config_checks.specs.Reading.Steps.{has_byte}
use Rattle.config_checks.proofs.edits.lacks_more.Given as goal

abbrev pub invariant-loop-byte : goal.invariant-loop-byte
invariant-loop-byte l = l.left + length (filter (λ byte. not (has_byte l.to byte)) (take l.byte-index l.from))
    ≡ l.most
