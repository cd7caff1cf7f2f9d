use Rattle.std.proofs.Common.{◌∙◌, sym}
use Rattle.config_search.proofs.owner.is_own.Goals as goal

pub returns-then-branch : goal.returns-then-branch
returns-then-branch c = λ system agrees own. own.0 (rw c.if-branch.true at c.in_ok-is_on.ensures system agrees)

pub returns-then-branch-2 : goal.returns-then-branch-2
returns-then-branch-2 c = λ system agrees. (
  rw c.if-branch.false at c.in_ok-is_on.ensures system agrees,
  sym (c.in_ok-are_owned.ensures system agrees) ∙ c.if-branch-2.true,
)
