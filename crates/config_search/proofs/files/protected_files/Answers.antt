use Rattle.std.proofs.Common.{ap, map}
use Rattle.config_search.specs.Shown.{file_of}
use Rattle.config_search.proofs.Lists.{begins}
use Rattle.config_search.proofs.files.protected_files.Goals as goal

pub returns : goal.returns
returns c = λ system agrees. begins system _ _ _ _ (ap (map file_of) c.new-names.ensures.items)
    (c.in_ok-push_system.ensures system agrees) (c.in_ok-push_user.ensures system agrees)
