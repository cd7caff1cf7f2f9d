use Rattle.config_edit.proofs.Edits.{is_none_left, is_some_left}
use Rattle.config_edit.proofs.Commented.{front_of_plain, front_of_signed, front_of_spaced}
use Rattle.std.proofs.Common.{sym, ◌∙◌}
use Rattle.config_edit.proofs.write.comment_front.Goals as goal

pub returns-in-None : goal.returns-in-None
returns-in-None c = front_of_plain c.run.ensures c.in-None.ensures

pub returns-in-Some : goal.returns-in-Some
returns-in-Some c =
    front_of_signed c.run.ensures c.in-Some.ensures
    (is_none_left c.run.result.0.now (sym c.if-is_empty.true ∙ c.is_empty.ensures))

pub returns-in-Some-2 : goal.returns-in-Some-2
returns-in-Some-2 c =
    front_of_spaced c.run.ensures c.in-Some-2.ensures
    (is_some_left c.run.result.0.now (sym c.if-is_empty.false ∙ c.is_empty.ensures))
