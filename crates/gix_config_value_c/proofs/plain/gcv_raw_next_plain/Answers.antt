use Rattle.std.proofs.Common.{arith, refl, inl, inr}
use Rattle.gix_config_value_c.specs.Plain.Tells.{nothing}
use Rattle.gix_config_value_c.specs.Plain.PlainInto.{told, no_memory}
use Rattle.gix_config_value_c.proofs.Frames.{told_size, tells_more}
use Rattle.gix_config_value_c.proofs.plain.gcv_raw_next_plain.Goals as goal

pub steps-init : goal.steps-init
steps-init c = (omega arith, nothing)

pub steps-preserved : goal.steps-preserved
steps-preserved c =
    let step = c.in-Ok-Some.step in
    let (texts, tells, fits, put) = rw c.in-Ok-Some.field-0-is at c.in-Ok-Some.ensures.ok in (
      omega (arith, told_size tells, fits, c.tell_next.auto.buffer),
      tells_more c.in-Some.known c.args.frame.now c.steps.frame c.tell_next.new.frame c.steps.steps c.steps.buffer
          c.tell_next.new.buffer c.steps.told c.steps.size step texts c.steps-test.true c.steps.invariant.1 tells put,
    )

pub returns-in-Err : goal.returns-in-Err
returns-in-Err c =
    rw (c.in-Err.ensures.err.0, c.in-Err.ensures.err.1)
    (no_memory c.in-Some.known c.steps.size c.in-Some.ensures c.steps.invariant.1 refl)

pub returns-after-steps : goal.returns-after-steps
returns-after-steps c =
    told c.in-Some.known c.steps.size c.in-Some.ensures c.steps.invariant.1 (inl (omega (arith, c.steps-test.false))) refl

pub returns-in-Ok-None : goal.returns-in-Ok-None
returns-in-Ok-None c =
    let (same_frame, same_buffer, stays) = rw c.in-Ok-None.field-0-is at c.in-Ok-None.ensures.ok in
    rw (same_frame, same_buffer)
    (told c.in-Some.known c.steps.size c.in-Some.ensures c.steps.invariant.1 (inr stays) refl)
