use Rattle.std.proofs.Common.{rules}
use Rattle.config_search.proofs.StageSteps.{end_by}
use Rattle.config_search.proofs.stages.Search.next.Goals as goal

pub invariant_of-self : goal.invariant_of-self
invariant_of-self c = c.go-ended.ensures.right

pub returns-clause-answers : goal.returns-clause-answers
returns-clause-answers c = end_by c.args.self.now.folder c.self.inside.folder.now c.args.self.now.facts c.self.inside.facts
    c.go-ended.result.end (search rules) (search rules) c.go-ended.ensures.answers
