use Rattle.std.proofs.Common.{refl}
use Rattle.config_search.specs.Questions.{of_place}
use Rattle.config_search.proofs.seek.Limits.end_at.Goals as goal

pub answer_to-requires : goal.answer_to-requires
answer_to-requires c = λ system agrees. of_place refl (c.requires system agrees)
