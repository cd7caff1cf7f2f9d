use Rattle.std.proofs.Common.{arith}
use Rattle.std.proofs.lemmas.List.{take_all}
use Rattle.gix_config_value_c.proofs.Frames.{held_at, one_more, too_many}
use Rattle.gix_config_value_c.proofs.walk.walk_of.Goals as goal

pub loop-frame-init : goal.loop-frame-init
loop-frame-init c = rw c.default-walk.ensures tt

pub returns-in_err-frame : goal.returns-in_err-frame
returns-in_err-frame c =
    rw c.from_residual.ensures (λ old fits all.
    let (f, has) = held_at c.args.frames.now old c.loop-frame.frame-index _ all c.loop-frame-test.true in
    c.in_err-frame.ensures f has)

pub returns-then-not-go_on : goal.returns-then-not-go_on
returns-then-not-go_on c = λ old fits all.
    too_many c.args.frames.now old c.loop-frame.walk.frames.items c.loop-frame.frame-index c.loop-frame-test.true
    c.loop-frame.invariant (c.go_on.ensures.too_deep c.if-not-go_on.true).1 all fits

pub loop-frame-preserved : goal.loop-frame-preserved
loop-frame-preserved c =
    one_more c.args.frames.now c.loop-frame.walk.frames.items c.go_on.new.self.frames.items c.loop-frame.frame-index _
    c.in_ok-frame.frame c.loop-frame-test.true c.loop-frame.invariant c.in_ok-frame.ensures
    (c.go_on.ensures.goes_on c.if-not-go_on.false)

pub returns : goal.returns
returns c =
    rw (take_all c.loop-frame.frame-index c.args.frames.now (omega (arith, c.loop-frame-test.false))) at c.loop-frame.invariant
