use Rattle.std.proofs.Common.{codes, refl, subst, sym}
use Rattle.config_search.specs.Rule.{GitDir, IsGiven}
use Rattle.config_search.specs.Questions.{Comes, by_variable}
use Rattle.config_search.proofs.Places.{leads_place}
use Rattle.config_search.proofs.seek.find_given.Goals as goal

pub linked_or-requires : goal.linked_or-requires
linked_or-requires c = λ system agrees. rw c.in_ok-whole.ensures
    (by_variable {variable = codes "GIT_DIR"} (c.requires.place system agrees) refl (c.requires.answer_to system agrees))

pub is_git_dir-requires-clause-place : goal.is_git_dir-requires-clause-place
is_git_dir-requires-clause-place c = λ system agrees. rw c.deref.ensures.value
    (subst (λ (it : GitDir). Comes system c.args.lookup.now.folder.now it.name) (sym (c.in_ok-git_dir.ensures system agrees))
    (leads_place system _ _ _ IsGiven (rw c.in_ok-whole.ensures
    (by_variable {variable = codes "GIT_DIR"} (c.requires.place system agrees) refl (c.requires.answer_to system agrees)))))
