use Rattle.std.proofs.Common.{refl}
use Rattle.config_search.specs.Questions.{of_reference}
use Rattle.config_search.proofs.head.reference_at.Goals as goal

pub answer_in-requires : goal.answer_in-requires
answer_in-requires c = λ system agrees. of_reference c.args.name.now refl (c.requires.kept system agrees) c.requires.named
