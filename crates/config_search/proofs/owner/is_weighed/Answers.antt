use Rattle.std.proofs.Common.{inl, inr}
use Rattle.config_search.proofs.owner.is_weighed.Goals as goal

pub returns-then-branch : goal.returns-then-branch
returns-then-branch c = λ system start agrees no. inr (inl (rw c.if-branch.true at c.in_ok-is_own-in-Below.ensures system agrees))
