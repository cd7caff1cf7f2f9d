use Rattle.config_search.specs.Questions.{also_opened}
use Rattle.config_search.proofs.owner.are_owned.Goals as goal

pub is_owned-requires : goal.is_owned-requires
is_owned-requires c = λ system agrees. rw c.opened.ensures (also_opened (c.requires.place system agrees))
