use Rattle.std.proofs.Common.{refl, ◌==◌}
use Rattle.config_url.proofs.UrlMatches.{below_slash}
use Rattle.config_url.proofs.is_at_or_below.Goals as goal

pub returns-in-Some-split : goal.returns-in-Some-split
returns-in-Some-split c =
    below_slash c.in-Some-split.first c.bytes.wanted.now c.bytes.left.now c.in-Some-split.field-0-1.now
    c.args.front.now c.args.path.now (c.in-Some-split.first == 47) c.in_default.ensures c.in-Some-split.ensures refl
    c.bytes.invariant
