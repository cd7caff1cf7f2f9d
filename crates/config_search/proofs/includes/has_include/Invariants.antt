use Rattle.std.proofs.Common.{◌≡◌, length}
use Rattle.config_search.specs.Reads as reads
use Rattle.config_search.proofs.includes.has_include.Given as goal

abbrev pub invariant-brackets : goal.invariant-brackets
invariant-brackets l = reads.has_include l.fn.text ≡ reads.has_include l.rest

abbrev pub decreases-brackets : goal.decreases-brackets
decreases-brackets l = length l.rest
