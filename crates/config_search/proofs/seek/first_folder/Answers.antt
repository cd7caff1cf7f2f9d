use Rattle.config_search.specs.Questions.{in_start}
use Rattle.config_search.proofs.seek.first_folder.Goals as goal

pub named_path-requires : goal.named_path-requires
named_path-requires c = λ system agrees. rw c.start_of-name.ensures in_start
