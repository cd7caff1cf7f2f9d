use Rattle.config_file.specs.Pattern.{MatchesText}
use Rattle.config_file.specs.Reading.Places.{FindsDeep, size}
use Rattle.config_file.proofs.pattern.matches.Given as goal

abbrev pub invariant-steps : goal.invariant-steps
invariant-steps l =
    FindsDeep l.fn.ignores_case (MatchesText l.fn.ignores_case l.fn.pattern l.fn.text)
    (MatchesText l.fn.ignores_case l.fn.pattern l.fn.text) l.found

abbrev pub decreases-steps : goal.decreases-steps
decreases-steps l = size l.found
