use Rattle.std.proofs.Common.{length, ◌≤◌}
use Rattle.config_file.specs.Pattern.{Matches}
use Rattle.config_file.specs.Reading.Places.{FindsStar, FromHere, size}
use Rattle.config_file.proofs.pattern.found_deep.Given as goal

abbrev pub invariant-steps : goal.invariant-steps
invariant-steps l = record {
  is : FindsStar l.fn.ignores_case (Matches l.fn.ignores_case l.fn.starts l.fn.pattern l.fn.text)
      (λ c. FromHere l.fn.ignores_case c l.fn.starts l.fn.pattern l.fn.text) l.found;
  shorter : size l.found ≤ length l.fn.pattern;
}

abbrev pub decreases-steps : goal.decreases-steps
decreases-steps l = size l.found
