use Rattle.std.proofs.Common.{arith, refl, length, ap, ◌<◌, ◌+◌}
use Rattle.std.proofs.lemmas.List.{take_all}
use Rattle.gix_config_value_c.proofs.Frames.{one_put}
use Rattle.gix_config_value_c.proofs.walk.put_frames.Goals as goal

pub loop-frame-init : goal.loop-frame-init
loop-frame-init c = (refl, tt)

pub offset_bounds-frames-count : goal.offset_bounds-frames-count
offset_bounds-frames-count c =
    omega (arith, c.loop-frame.invariant.0, c.loop-frame-test.true, c.frames-frame-items.type_inv.1)

pub bounds-frames-count : goal.bounds-frames-count
bounds-frames-count c =
    let same = ap length c.frames-frame-items.ensures in
    omega (arith, same, c.loop-frame.invariant.0, c.loop-frame-test.true, c.requires, c.loop-frame.auto.frames)

pub overflow_add-count : goal.overflow_add-count
overflow_add-count c =
    omega (arith, c.loop-frame.invariant.0, c.loop-frame-test.true, c.frames-frame-items.type_inv.0)

pub loop-frame-preserved : goal.loop-frame-preserved
loop-frame-preserved c =
    let at = c.loop-frame.invariant.0 in
    let same = ap length c.frames-frame-items.ensures in
    let less : c.loop-frame.count < length c.loop-frame.frames =
    omega (arith, same, at, c.loop-frame-test.true, c.requires, c.loop-frame.auto.frames) in (
      ap (λ n. n + 1) at,
      one_put c.loop-frame.frames c.frames-frame-items.result.now c.loop-frame.count c.held.result
          c.frame-item.result less (omega (arith, at, c.loop-frame-test.true)) c.loop-frame.invariant.1
          (rw at c.frame-item.is) c.held.ensures,
    )

pub returns-clause-count : goal.returns-clause-count
returns-clause-count c =
    let same = ap length c.frames-frame-items.ensures in
    omega (arith, same, c.loop-frame.invariant.0, c.loop-frame-test.false, c.loop-frame.auto.frame-index-end)

pub returns-clause-holds : goal.returns-clause-holds
returns-clause-holds c =
    let all = take_all c.loop-frame.count c.frames-frame-items.result.now
    (omega (arith, c.loop-frame.invariant.0, c.loop-frame-test.false)) in
    rw (all, c.frames-frame-items.ensures) at c.loop-frame.invariant.1
