use Rattle.config_search.proofs.Lists.{of_user}
use Rattle.config_search.proofs.files.push_own.Goals as goal

pub returns : goal.returns
returns c = λ system agrees. of_user system _ _ _ _ _ (c.in_ok-home.ensures system agrees) (c.in_ok-own.ensures system agrees)
    c.in_ok-push_xdg.ensures c.in_ok-push_home.ensures
