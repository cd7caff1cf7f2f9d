use Rattle.std.proofs.lemmas.Bool.{false≢true}
use Rattle.config_checks.proofs.FixLemmas.{few_far}
use Rattle.config_checks.proofs.fix.is_typing_error.Goals as goal

pub returns-in-None : goal.returns-in-None
returns-in-None c =
    let far = rw c.in-None.is at c.in_ok-edits.ensures in (
      λ yes. absurd (false≢true yes),
      λ one. absurd (few_far c.args.was.now c.args.now.now far one),
    )
