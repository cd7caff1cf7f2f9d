use Rattle.std.proofs.Common.{refl}
use Rattle.config_search.specs.Questions.{of_reference}
use Rattle.config_search.proofs.head.linked_at.Goals as goal

pub answer_in-requires : goal.answer_in-requires
answer_in-requires c = λ system agrees. of_reference c.args.name.now refl (c.requires.kept system agrees) c.requires.named

pub answer_in-requires-in_default : goal.answer_in-requires-in_default
answer_in-requires-in_default c = λ system agrees. of_reference c.args.name.now refl (c.requires.kept system agrees) c.requires.named
