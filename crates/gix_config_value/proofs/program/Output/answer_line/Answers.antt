use Rattle.gix_config_value.proofs.StepLemmas.{SendsAnswer-appended, passed_on}
use Rattle.gix_config_value.proofs.program.Output.answer_line.Goals as goal

pub returns-in_err-make_room-clause-err : goal.returns-in_err-make_room-clause-err
returns-in_err-make_room-clause-err g c =
    passed_on _ _ _ c.from_residual.ensures.1 c.in_err-make_room.ensures.err

pub returns-in_err-make_room-clause-write : goal.returns-in_err-make_room-clause-write
returns-in_err-make_room-clause-write g c =
    passed_on _ _ _ c.from_residual.ensures.1 c.in_err-make_room.ensures.write

pub returns-clause-ok : goal.returns-clause-ok
returns-clause-ok g c = SendsAnswer-appended _ _ _ _ _ c.in_ok-make_room.ensures.ok c.push_answer.ensures
