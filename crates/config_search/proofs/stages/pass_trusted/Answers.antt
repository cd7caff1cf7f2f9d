use Rattle.config_search.proofs.StageSteps.{site_stops}
use Rattle.config_search.proofs.stages.pass_trusted.Goals as goal

pub halts-requires-clause-stops : goal.halts-requires-clause-stops
halts-requires-clause-stops c = λ system stop agrees.
    site_stops system c.args.lookup.now.folder.now c.args.site stop (c.requires system agrees).0

pub halts-requires-in-Err-read_format-clause-stops : goal.halts-requires-in-Err-read_format-clause-stops
halts-requires-in-Err-read_format-clause-stops c = λ system stop agrees.
    site_stops system c.args.lookup.now.folder.now c.args.site stop (c.requires system agrees).0

pub returns-in-Ok-read_format-clause-right : goal.returns-in-Ok-read_format-clause-right
returns-in-Ok-read_format-clause-right c = λ system agrees. rw c.to.ensures.same
    ((c.requires system agrees).0, (c.requires system agrees).1, c.in-Ok-read_format.ensures system agrees)
