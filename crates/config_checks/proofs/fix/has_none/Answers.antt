use Rattle.std.proofs.lemmas.Bool.{false≢true}
use Rattle.config_checks.proofs.FixLemmas.{not_both}
use Rattle.config_checks.proofs.fix.has_none.Goals as goal

pub returns-in-Ok-Some : goal.returns-in-Ok-Some
returns-in-Ok-Some c =
    let bad = rw c.in-Ok-Some.field-0-is at c.in-Ok-Some.ensures in
    (λ no. absurd (false≢true no), λ good. absurd (not_both _ _ _ _ bad good))
