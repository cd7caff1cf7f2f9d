use Rattle.std.proofs.Common.{◌↔◌, length}
use Rattle.config_url.proofs.UrlMatches.{Below}
use Rattle.config_url.proofs.is_at_or_below.Given as goal

abbrev pub invariant-bytes : goal.invariant-bytes
invariant-bytes l = Below l.wanted l.left ↔ Below l.fn.front l.fn.path

abbrev pub decreases-bytes : goal.decreases-bytes
decreases-bytes l = length l.wanted
