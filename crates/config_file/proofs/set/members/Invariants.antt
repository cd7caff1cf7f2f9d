use Rattle.std.proofs.Common.{length}
use Rattle.config_file.specs.Reading.Places.{Closing}
use Rattle.config_file.proofs.Sets.{GoesOn}
use Rattle.config_file.proofs.set.members.Given as goal

abbrev pub invariant-members : goal.invariant-members
invariant-members l = record {
  on : GoesOn l.fn.ignores_case l.fn.byte l.fn.text l.found l.rest;
  ahead : Closing l.rest l.closing;
}

abbrev pub decreases-members : goal.decreases-members
decreases-members l = length l.rest
