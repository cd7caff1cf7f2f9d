use Rattle.config_search.proofs.StageSteps.{start_comes}
use Rattle.config_search.proofs.stages.pass.Goals as goal

pub look_at-requires-clause-place : goal.look_at-requires-clause-place
look_at-requires-clause-place c = λ system agrees.
    start_comes system _ c.in-Starts.start (rw c.in-Starts.is at (c.requires system agrees))

pub pass_reads-requires : goal.pass_reads-requires
pass_reads-requires c = λ system agrees. rw c.in-Reads.is at (c.requires system agrees)

pub pass_named-requires : goal.pass_named-requires
pass_named-requires c = λ system agrees. rw c.in-Names.is at (c.requires system agrees)

pub pass_trusted-requires : goal.pass_trusted-requires
pass_trusted-requires c = λ system agrees. rw c.in-Trusts.is at (c.requires system agrees)

pub pass_stated-requires : goal.pass_stated-requires
pass_stated-requires c = λ system agrees. rw c.in-States.is at (c.requires system agrees)

pub pass_known-requires : goal.pass_known-requires
pass_known-requires c = λ system agrees. rw c.in-Knows.is at (c.requires system agrees)
