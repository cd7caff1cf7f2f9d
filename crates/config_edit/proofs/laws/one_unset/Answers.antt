use Rattle.config_file.proofs.OneKey.{cut_same}
use Rattle.config_edit.proofs.TakenOut.{taken_out_once}
use Rattle.config_edit.proofs.laws.one_unset.Goals as goal

pub returns-clause-one : goal.returns-clause-one
returns-clause-one c = λ name old new other first second.
    let (key, is, contents, has, (now, holds, loses, out)) = first in
    let (again, so, others, has_too, (then, holds_too, loses_too, out_too)) = second in
    taken_out_once (cut_same is.cut so.cut) out out_too

pub returns-clause-each : goal.returns-clause-each
returns-clause-each c = λ places name old new other first second.
    let (key, is, contents, has, (now, holds, loses, out)) = first in
    let (again, so, others, has_too, (then, holds_too, loses_too, out_too)) = second in
    taken_out_once (cut_same is.cut so.cut) out out_too
