use Rattle.config_search.proofs.StageSteps.{site_stops}
use Rattle.config_search.proofs.Stores.{if_some}
use Rattle.config_search.proofs.stages.pass_stated.Goals as goal

pub halts-requires-clause-stops : goal.halts-requires-clause-stops
halts-requires-clause-stops c = λ system stop agrees.
    site_stops system c.args.lookup.now.folder.now c.args.site stop (c.requires system agrees).0

pub returns-then-not-format-clause-right : goal.returns-then-not-format-clause-right
returns-then-not-format-clause-right c = λ system agrees. let (site, safe, named) = c.requires system agrees in
    rw c.to.ensures.same (site, safe, rw c.of_tree-format.ensures named)

pub returns-in-Ok-read_own-clause-right : goal.returns-in-Ok-read_own-clause-right
returns-in-Ok-read_own-clause-right c = λ system agrees. let (site, safe, named) = c.requires system agrees in
    rw c.to-in-Ok-read_own.ensures.same (site, safe, if_some _ (rw c.in-Some.is at (c.in-Ok.ensures system agrees)))

pub returns-in_default-clause-right : goal.returns-in_default-clause-right
returns-in_default-clause-right c = λ system agrees. rw c.to-in_default.ensures.same (c.requires system agrees)

pub returns-in-Err-clause-right : goal.returns-in-Err-clause-right
returns-in-Err-clause-right c = λ system agrees. rw c.stays.ensures.same (c.requires system agrees)

pub halts-requires-clause-right : goal.halts-requires-clause-right
halts-requires-clause-right c = λ system agrees. let (site, safe, named) = c.requires system agrees in (site, safe)
