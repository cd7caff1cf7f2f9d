use Rattle.std.proofs.Common.{length}
use Rattle.config_file.specs.Bytes.{is_plain_in_quotes}
use Rattle.config_file.specs.Reading.Scans.{PassedSubsection}
use Rattle.config_file.specs.Runs.{StopsRun}
use Rattle.config_file.proofs.header.quoted.Given as goal

abbrev pub invariant-pieces : goal.invariant-pieces
invariant-pieces l = PassedSubsection l.fn.text l.at × StopsRun is_plain_in_quotes l.at

abbrev pub decreases-pieces : goal.decreases-pieces
decreases-pieces l = length l.at
