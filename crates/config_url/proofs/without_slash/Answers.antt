use Rattle.config_url.proofs.UrlMatches.{closed_slash, closed_other, closed_none}
use Rattle.config_url.proofs.without_slash.Goals as goal

pub returns-in_default : goal.returns-in_default
returns-in_default c = closed_none c.args.path.now c.in_default.ensures.cases

pub returns-then-last-eq47 : goal.returns-then-last-eq47
returns-then-last-eq47 c =
    closed_slash c.args.path.now c.in-Some.front.now c.in-Some.last.now c.in-Some.ensures.cases.0 c.if-last-eq47.true

pub returns-else-last-eq47 : goal.returns-else-last-eq47
returns-else-last-eq47 c =
    closed_other c.args.path.now c.in-Some.front.now c.in-Some.last.now c.in-Some.ensures.cases.0 c.if-last-eq47.false
