use Rattle.std.proofs.Common.{refl}
use Rattle.config_search.specs.Questions.{also_opened, of_place}
use Rattle.config_search.proofs.seek.device_of.Goals as goal

pub answer_to-requires : goal.answer_to-requires
answer_to-requires c = λ system agrees. rw c.opened.ensures (of_place refl (also_opened (c.requires system agrees)))
