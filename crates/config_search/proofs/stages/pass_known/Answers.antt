use Rattle.config_search.proofs.StageSteps.{does_told, site_stops, if_named}
use Rattle.config_search.specs.Search.{Inside}
use Rattle.config_search.specs.Shown.{git_dir_of}
use Rattle.config_search.proofs.stages.pass_known.Goals as goal

pub place_by_format-requires-clause-stored : goal.place_by_format-requires-clause-stored
place_by_format-requires-clause-stored c = if_named c.args.lookup.now.facts.now c.args.format.store.place
    (λ system agrees. (c.requires system agrees).2)

pub returns-in-Ok-clause-right : goal.returns-in-Ok-clause-right
returns-in-Ok-clause-right c = λ system agrees. let (site, safe, named) = c.requires system agrees in rw c.to.ensures.same
    (does_told system c.args.lookup.now.folder.now c.args.site.start
    (Inside c.args.site.folder.name.now (git_dir_of c.args.site.git_dir)) c.in-Ok.place.outcome site.start site.sought
    (c.in-Ok.ensures system agrees site.shared safe))

pub halts-requires-clause-stops : goal.halts-requires-clause-stops
halts-requires-clause-stops c = λ system stop agrees.
    site_stops system c.args.lookup.now.folder.now c.args.site stop (c.requires system agrees).0
