use Rattle.std.proofs.Common.{refl}
use Rattle.config_search.specs.Questions.{above, of_place}
use Rattle.config_search.proofs.Names.{inside_here}
use Rattle.config_search.proofs.git_dir.may_be_folder.Goals as goal

pub has_folder-requires : goal.has_folder-requires
has_folder-requires c = λ system agrees. rw (inside_here c.args.name.now) (of_place refl (c.requires system agrees))

pub has_folder-requires-2 : goal.has_folder-requires-2
has_folder-requires-2 c = λ system agrees. rw (inside_here c.folder_of.result.now, c.folder_of.ensures)
    (of_place refl (above (c.requires system agrees)))
