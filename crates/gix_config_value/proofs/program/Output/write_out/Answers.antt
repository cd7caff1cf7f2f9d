use Rattle.std.proofs.Common.{refl, sym, ◌∙◌, eqb-true}
use Rattle.std.proofs.KnownBytes.{Appends-nil, Appends-kept}
use Rattle.std.proofs.lemmas.List.{take_rest}
use Rattle.gix_config_value.proofs.StepLemmas.{SendsBytes-nil, SendsBytes-write, SendsBytes-cleared}
use Rattle.gix_config_value.proofs.StepLemmas.{FailsSending-write}
use Rattle.gix_config_value.proofs.program.Output.write_out.Goals as goal

pub loop-rest-init : goal.loop-rest-init
loop-rest-init g c = rw (c.as_bytes-rest.ensures.value ∙ c.as_str.ensures.value) (SendsBytes-nil _)

pub loop-rest-preserved : goal.loop-rest-preserved
loop-rest-preserved g c =
    rw (take_rest _ _) (SendsBytes-write _ _ _ _ c.loop-rest.invariant c.in-Ok.ensures.bytes)

pub returns-in-Ok-eq0-clause-err : goal.returns-in-Ok-eq0-clause-err
returns-in-Ok-eq0-clause-err g c =
    FailsSending-write _ _ _ _ c.loop-rest.invariant
    (rw c.in-Ok-eq0.field-0-test at c.in-Ok-eq0.ensures.bytes) refl

pub returns-in-Err-clause-err : goal.returns-in-Err-clause-err
returns-in-Err-clause-err g c =
    FailsSending-write _ _ _ _ c.loop-rest.invariant
    (Appends-kept _ _ _ _ (Appends-nil _) c.in-Err.ensures.bytes) refl

pub returns-clause-ok : goal.returns-clause-ok
returns-clause-ok g c =
    SendsBytes-cleared _ _ _ c.loop-rest.invariant (eqb-true _ 0 (sym c.loop-rest-test.ensures))
    c.clear.ensures
