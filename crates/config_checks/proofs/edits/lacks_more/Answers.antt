use Rattle.std.proofs.Common.{arith, sym, ap, ◌∙◌}
use Rattle.std.specs.Prelude.{not}
use Rattle.config_checks.specs.Reading.Steps.{has_byte}
use Rattle.config_checks.proofs.LackLemmas.{filtered_further}
use Rattle.config_checks.proofs.edits.lacks_more.Goals as goal

pub returns-then-left-eq0 : goal.returns-then-left-eq0
returns-then-left-eq0 c =
    let lacks = ap not (sym c.has_byte.ensures ∙ c.if-not-has_byte.true) in
    let further = filtered_further (λ byte. not (has_byte c.args.to.now byte)) c.args.from.now c.loop-byte.byte-index _
    c.loop-byte-test.true lacks in
    λ yes. omega (arith, further, c.loop-byte.invariant, c.if-left-eq0.true)
