use Rattle.config_search.proofs.stages.begin.Goals as goal

pub returns-in-Some : goal.returns-in-Some
returns-in-Some c = λ system agrees. let known = rw c.in-Some.is at c.in_ok-start.ensures system agrees in (known.1, known.0)
