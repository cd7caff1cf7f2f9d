use Rattle.config_search.proofs.stages.conclude.Goals as goal

pub returns-in-Ok-clause-answers : goal.returns-in-Ok-clause-answers
returns-in-Ok-clause-answers c = λ system agrees. let lists = c.in-Ok.ensures system agrees in
    (c.requires system agrees, lists.0, lists.1)
