use Rattle.config_search.proofs.Lists.{with_others}
use Rattle.config_search.proofs.place.files_of.Goals as goal

pub returns : goal.returns
returns c = λ system agrees. with_others system _ _ _ (c.in_ok-names.ensures system agrees) c.in_ok-push_used.ensures
