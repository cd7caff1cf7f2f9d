use Rattle.std.proofs.Common.{◌↔◌, length}
use Rattle.config_url.proofs.UrlHosts.{Stands}
use Rattle.config_url.proofs.host.stands_for_host.Given as goal

abbrev pub invariant-labels : goal.invariant-labels
invariant-labels l = Stands l.wanted l.left ↔ Stands l.fn.pattern l.fn.host

abbrev pub decreases-labels : goal.decreases-labels
decreases-labels l = length l.wanted
