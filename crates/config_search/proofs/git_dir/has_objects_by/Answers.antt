use Rattle.std.proofs.Common.{codes, refl, sym}
use Rattle.config_search.specs.Questions.{by_variable, of_part, of_place}
use Rattle.config_search.proofs.git_dir.has_objects_by.Goals as goal

pub has_folder-requires : goal.has_folder-requires
has_folder-requires c = λ system agrees. of_part (codes "objects") refl (c.requires.place system agrees)

pub has_folder-requires-in-Some-2 : goal.has_folder-requires-in-Some-2
has_folder-requires-in-Some-2 c = λ system agrees. of_place refl (by_variable (c.requires.start_place system agrees)
    refl (sym (rw c.in-Some-2.is at c.requires.answer_to system agrees)))
