use Rattle.std.proofs.Common.{codes, refl}
use Rattle.config_search.specs.Questions.{of_part}
use Rattle.config_search.proofs.git_dir.has_folders.Goals as goal

pub has_folder-requires : goal.has_folder-requires
has_folder-requires c = λ system agrees. of_part (codes "refs") refl (c.requires.place system agrees)
