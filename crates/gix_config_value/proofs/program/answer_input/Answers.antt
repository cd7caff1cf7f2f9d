use Rattle.std.proofs.Common.{arith, ◌∙◌}
use Rattle.std.proofs.lemmas.Result.{IfErr-weaker, IfOk-weaker}
use Rattle.gix_config_value.proofs.StepLemmas.{passed_on}
use Rattle.gix_config_value.proofs.RunLemmas.{HasAnswered-start, HasAnswered-on, Fails-read, Fails-limit}
use Rattle.gix_config_value.proofs.RunLemmas.{Fails-on, Fails-unsent, Completes-end, Fails-end, at_the_end}
use Rattle.gix_config_value.proofs.program.answer_input.Goals as goal

pub loop-init : goal.loop-init
loop-init g c = HasAnswered-start _ _ _ _ _ c.new.ensures.items c.requires

pub loop-preserved : goal.loop-preserved
loop-preserved g c = HasAnswered-on _ _ _ _ _ c.loop.invariant _ _ _ _ c.in-Ok.ensures.bytes.0
    c.in_ok-take_bytes.ensures.ok c.in_ok-write_out.ensures.ok c.in_ok-write_out.ensures.empty

pub returns-in-Err-clause-fails : goal.returns-in-Err-clause-fails
returns-in-Err-clause-fails g c = Fails-read _ _ _ _ _ c.loop.invariant _ c.in-Err.ensures.bytes

pub returns-in-Err-clause-same_writer : goal.returns-in-Err-clause-same_writer
returns-in-Err-clause-same_writer g c = c.loop.invariant.advances.sends.same_writer

pub returns-then-count-eq0-clause-completes : goal.returns-then-count-eq0-clause-completes
returns-then-count-eq0-clause-completes g c =
    IfOk-weaker _ _ _ (λ ok. Completes-end _ _ _ _ _ c.loop.invariant _ _ ok
    (at_the_end _ _ _ _ c.if-count-eq0.true (omega (arith, c.read.auto.buf)) c.in-Ok.ensures.bytes))
    c.finish.ensures.ok

pub returns-then-count-eq0-clause-fails : goal.returns-then-count-eq0-clause-fails
returns-then-count-eq0-clause-fails g c =
    IfErr-weaker _ _ _ (λ e. Fails-end _ _ _ _ _ c.loop.invariant _ _ e
    (at_the_end _ _ _ _ c.if-count-eq0.true (omega (arith, c.read.auto.buf)) c.in-Ok.ensures.bytes))
    c.finish.ensures.err

pub returns-in_err-take_bytes-clause-fails : goal.returns-in_err-take_bytes-clause-fails
returns-in_err-take_bytes-clause-fails g c = passed_on _ _ _ c.from_residual.ensures.1
    (Fails-on _ _ _ _ _ c.loop.invariant _ _ _ _ c.in-Ok.ensures.bytes.0 c.in_err-take_bytes.ensures.err)

pub returns-in_err-take_bytes-clause-same_writer : goal.returns-in_err-take_bytes-clause-same_writer
returns-in_err-take_bytes-clause-same_writer g c =
    c.in_err-take_bytes.ensures.err.breaks.sends.same_writer ∙ c.loop.invariant.advances.sends.same_writer

pub returns-in_err-write_out-clause-fails : goal.returns-in_err-write_out-clause-fails
returns-in_err-write_out-clause-fails g c = passed_on _ _ _ c.from_residual-in_err-write_out.ensures.1
    (Fails-unsent _ _ _ _ _ c.loop.invariant _ _ _ _ _ c.in-Ok.ensures.bytes.0
    c.in_ok-take_bytes.ensures.ok c.in_err-write_out.ensures.err)

pub returns-in_err-write_out-clause-same_writer : goal.returns-in_err-write_out-clause-same_writer
returns-in_err-write_out-clause-same_writer g c =
    c.in_err-write_out.ensures.err.sends.same_writer ∙ c.in_ok-take_bytes.ensures.ok.sends.same_writer
    ∙ c.loop.invariant.advances.sends.same_writer

pub returns-clause-fails : goal.returns-clause-fails
returns-clause-fails g c = Fails-limit _ _ _ _ _ c.loop.invariant

pub returns-clause-same_writer : goal.returns-clause-same_writer
returns-clause-same_writer g c = c.loop.invariant.advances.sends.same_writer
