use Rattle.config_search.proofs.stages.pass_site.Goals as goal

pub returns-in-None-clause-right : goal.returns-in-None-clause-right
returns-in-None-clause-right c = λ system agrees. rw c.to.ensures.same
    (c.requires system agrees, rw c.in-None.is at (c.in-Ok.ensures system agrees))

pub returns-in-Some-clause-right : goal.returns-in-Some-clause-right
returns-in-Some-clause-right c = λ system agrees. rw c.to-in-Some.ensures.same
    (c.requires system agrees, rw c.in-Some.is at (c.in-Ok.ensures system agrees))
