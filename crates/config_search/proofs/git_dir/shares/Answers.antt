use Rattle.std.proofs.Common.{sym}
use Rattle.config_search.proofs.Places.{common_place}
use Rattle.config_search.proofs.git_dir.shares.Goals as goal

pub has_folders-requires-in-Linked-clause-place : goal.has_folders-requires-in-Linked-clause-place
has_folders-requires-in-Linked-clause-place c = λ system agrees. rw c.deref.ensures.value
    (common_place system _ _ _ _ (c.requires.start_place system agrees) (c.requires.place system agrees)
    (sym (rw c.in-Linked.is at c.requires.answer_to system agrees)))
