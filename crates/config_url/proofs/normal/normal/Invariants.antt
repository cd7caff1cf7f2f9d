use Rattle.std.proofs.Common.{length}
use Rattle.config_url.specs.Reading.Urls.{GoesOn}
use Rattle.config_url.proofs.normal.normal.Given as goal

abbrev pub invariant-bytes : goal.invariant-bytes
invariant-bytes l = GoesOn l.fn.text l.written.items l.rest

abbrev pub decreases-bytes : goal.decreases-bytes
decreases-bytes l = length l.rest
