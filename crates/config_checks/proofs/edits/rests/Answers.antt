use Rattle.std.proofs.lemmas.List.{take_rest}
use Rattle.config_checks.proofs.NearestLemmas.{rests_of}
use Rattle.config_checks.proofs.edits.rests.Goals as goal

pub returns : goal.returns
returns c =
    let count = c.common-count.result in
    rw (take_rest c.args.a.now count, take_rest c.args.b.now count, c.common-count.ensures.count)
    (rests_of c.args.a.now c.args.b.now)
