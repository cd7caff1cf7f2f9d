use Rattle.std.proofs.Common.{◌≡◌, take}
use Rattle.std.specs.List.{fold}
use Rattle.config_checks.specs.Reading.Steps.{next_number}
use Rattle.config_checks.proofs.marks.number_of.Given as goal

abbrev pub invariant-loop-byte : goal.invariant-loop-byte
invariant-loop-byte l = l.number ≡ fold next_number 0 (take l.byte-index l.name)
