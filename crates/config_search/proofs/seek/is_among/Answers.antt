use Rattle.config_file.proofs.Picked.{among_none}
use Rattle.config_search.proofs.Among.{is_here, not_here}
use Rattle.config_search.proofs.seek.is_among.Goals as goal

pub returns-then-eq : goal.returns-then-eq
returns-then-eq c = is_here c.args.folders.now c.loop-other.other-index _ c.args.folder.now _ c.loop-other-test.true
    c.eq.ensures c.if-eq.true

pub loop-other-preserved : goal.loop-other-preserved
loop-other-preserved c = not_here c.args.folders.now c.loop-other.other-index _ c.args.folder.now _
    c.loop-other-test.true c.eq.ensures c.if-eq.false c.loop-other.invariant

pub returns : goal.returns
returns c = among_none (λ c. c.now) c.args.folders.now c.loop-other.other-index c.args.folder.now
    c.loop-other-test.false c.loop-other.invariant
