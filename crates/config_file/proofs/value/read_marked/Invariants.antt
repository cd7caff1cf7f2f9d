use Rattle.std.proofs.Common.{length}
use Rattle.config_file.specs.Reading.Scans.{PassedValue, HasLinesBefore}
use Rattle.config_file.proofs.value.read_marked.Given as goal

abbrev pub invariant-pieces : goal.invariant-pieces
invariant-pieces l =
    record { passed : PassedValue l.fn.text l.quoted l.at; counted : HasLinesBefore l.fn.text l.lines l.at }

abbrev pub decreases-pieces : goal.decreases-pieces
decreases-pieces l = length l.at
