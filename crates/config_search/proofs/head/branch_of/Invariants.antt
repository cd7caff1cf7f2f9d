use Rattle.config_search.specs.Questions.{StaysBelow}
use Rattle.config_search.proofs.head.branch_of.Given as goal

abbrev pub invariant-loop : goal.invariant-loop
invariant-loop l = StaysBelow l.name
