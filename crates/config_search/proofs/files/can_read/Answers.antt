use Rattle.std.proofs.Common.{arith}
use Rattle.config_search.proofs.Lists.{first_read}
use Rattle.config_search.proofs.files.can_read.Goals as goal

pub returns-in_ok-answer_in-in-len1-up : goal.returns-in_ok-answer_in-in-len1-up
returns-in_ok-answer_in-in-len1-up c = λ system agrees. first_read system c.args.folder.now c.args.names.now
    c.file-item.result _ _ (omega (arith, c.in-len1-up.len_at_least)) c.file-item.is c.is_word.ensures
    (rw c.deref.ensures.value at c.in_ok-answer_in-in-len1-up.ensures system agrees)
