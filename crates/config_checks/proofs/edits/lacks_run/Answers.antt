use Rattle.std.proofs.Common.{arith}
use Rattle.config_checks.proofs.NearestLemmas.{left_rests}
use Rattle.config_checks.proofs.edits.lacks_run.Goals as goal

pub returns : goal.returns
returns c =
    let is = left_rests c.requires in
    let long = c.if-short-lt-LONG.false in (
      λ yes. (omega (arith, long), is.1 (c.ends_with_word.ensures.0 yes)),
      λ run. c.ends_with_word.ensures.1 (is.0 run.1),
    )
