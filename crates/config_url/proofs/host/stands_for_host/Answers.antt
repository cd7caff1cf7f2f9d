use Rattle.std.proofs.Common.{rules}
use Rattle.config_url.proofs.UrlHosts.{stands_at_end, stands_half}
use Rattle.config_url.proofs.host.stands_for_host.Goals as goal

pub returns-then-is_empty : goal.returns-then-is_empty
returns-then-is_empty c =
    stands_at_end c.labels.wanted.now c.labels.left.now c.args.pattern.now c.args.host.now
    c.is_empty-then-is_empty.result c.labels.invariant (search rules) (search rules)

pub returns-then-is_empty-2 : goal.returns-then-is_empty-2
returns-then-is_empty-2 c =
    stands_half c.labels.wanted.now c.labels.left.now c.args.pattern.now c.args.host.now c.labels.invariant
    (search rules) (search rules)
