use Rattle.std.proofs.Common.{sym}
use Rattle.config_search.specs.Questions.{in_commondir}
use Rattle.config_search.proofs.git_dir.linked_by.Goals as goal

pub may_be_folder-requires : goal.may_be_folder-requires
may_be_folder-requires c = λ system agrees. rw (c.deref.ensures.value, c.in_ok-folder.ensures, c.line.ensures)
    (in_commondir (c.requires.place system agrees) (sym (rw c.in-Some.is at c.requires.answer_to system agrees)))
