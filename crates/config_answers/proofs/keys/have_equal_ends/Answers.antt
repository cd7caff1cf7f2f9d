use Rattle.std.proofs.Common.{◌-◌, length, arith}
use Rattle.std.proofs.lemmas.Bool.{eqb-true}
use Rattle.config_answers.proofs.KeyLemmas.{same_ends, same_blocks}
use Rattle.config_answers.proofs.keys.have_equal_ends.Goals as goal

pub returns-then-one-other-eq0 : goal.returns-then-one-other-eq0
returns-then-one-other-eq0 g c = λ same.
    let (small, same_length, within, meet) = c.requires in
    let one = c.args.one.now in
    let other = c.args.other.now in
    same_ends g.row.N one other same_length within meet
    (same_blocks 0 g.row.N one other (omega arith) same_length small c.if-one-other-eq0.true)
    (same_blocks (length one - g.row.N) g.row.N one other (omega arith) same_length small (eqb-true _ 0 same))
