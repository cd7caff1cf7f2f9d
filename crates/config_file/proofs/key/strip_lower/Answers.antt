use Rattle.std.proofs.Common.{subst}
use Rattle.config_file.specs.Header.{BeginsWithout}
use Rattle.config_file.proofs.Keys.{lacks_next}
use Rattle.config_file.proofs.key.strip_lower.Goals as goal

pub returns-in_err-rest : goal.returns-in_err-rest
returns-in_err-rest c =
    let loop = c.loop-byte in
    let same = c.to_ascii_lowercase.ensures.value in
    let other = subst (λ b. BeginsWithout b loop.rest.now) same c.in_err-rest.ensures in
    rw c.from_residual.ensures
    (lacks_next c.args.front.now c.args.text.now loop.rest.now loop.byte-index c.loop-byte-test.true
    loop.invariant other)
