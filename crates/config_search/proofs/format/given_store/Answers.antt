use Rattle.std.proofs.Common.{sym}
use Rattle.config_search.specs.Questions.{by_backend}
use Rattle.config_search.proofs.Stores.{any_given}
use Rattle.config_search.proofs.format.given_store.Goals as goal

pub returns-then-is_some : goal.returns-then-is_some
returns-then-is_some c = any_given _ _ (λ system agrees. by_backend (sym (rw c.in-Some.is at c.in_ok-given.ensures system agrees)))
