use Rattle.config_search.specs.Questions.{also_opened, in_dot_git}
use Rattle.config_search.proofs.owner.are_owned_below.Goals as goal

pub is_owned-requires : goal.is_owned-requires
is_owned-requires c = λ system agrees. rw (c.deref.ensures.value, c.in_ok-link.ensures)
    (in_dot_git (c.requires.place system agrees))

pub is_owned-requires-2 : goal.is_owned-requires-2
is_owned-requires-2 c = λ system agrees. rw c.opened.ensures (also_opened (c.requires.place system agrees))
