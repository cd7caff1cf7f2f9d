use Rattle.std.proofs.Common.{refl}
use Rattle.config_search.specs.Questions.{of_place}
use Rattle.config_search.proofs.Names.{inside_here}
use Rattle.config_search.proofs.seek.real_folder.Goals as goal

pub has_folder-requires : goal.has_folder-requires
has_folder-requires c = λ system agrees. rw (inside_here c.args.name.now) (of_place refl (c.requires system agrees))
