use Rattle.std.proofs.Common.{rules}
use Rattle.config_url.proofs.UrlNormal.{plain_goes, escaped_goes}
use Rattle.config_url.proofs.normal.first_spelled.Goals as goal

pub returns-then-first-ne37-clause-spelled : goal.returns-then-first-ne37-clause-spelled
returns-then-first-ne37-clause-spelled c = plain_goes c.args.first c.args.rest.now c.if-first-ne37.true

pub returns-clause-spelled : goal.returns-clause-spelled
returns-clause-spelled c =
    escaped_goes c.args.first c.in_ok-high.high c.in_ok-low.low c.in_ok-high-2.high c.in_ok-low-2.low
    c.args.rest.now c.in_ok-high.rest.now c.in_ok-low.rest.now c.if-first-ne37.false c.in_ok-high.ensures
    c.in_ok-low.ensures (search rules) (search rules)
