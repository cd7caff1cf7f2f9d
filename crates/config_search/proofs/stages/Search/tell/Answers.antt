use Rattle.config_search.proofs.StageSteps.{right_after}
use Rattle.config_search.proofs.stages.Search.tell.Goals as goal

pub invariant_of-self : goal.invariant_of-self
invariant_of-self c = right_after c.self.inside.folder.now c.self.inside.facts c.push.new.self c.args.fact
    c.self.inside.stage c.push.result c.push.ensures.told c.push.ensures.same c.self.invariant
