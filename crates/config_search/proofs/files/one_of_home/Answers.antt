use Rattle.config_search.proofs.Lists.{one_home}
use Rattle.config_search.proofs.files.one_of_home.Goals as goal

pub returns : goal.returns
returns c = λ system agrees. one_home system c.args.folder.now c.args.home.now _ _ _ _
    (rw c.new-own.ensures.items at c.in_ok-push_home.ensures) (c.in_ok-xdg.ensures system agrees)
    (rw c.new-others.ensures.items at c.in_ok-push_xdg.ensures) (c.in_ok-or_readable.ensures system agrees)
