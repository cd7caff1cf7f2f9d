use Rattle.std.proofs.Common.{true, length}
use Rattle.config_file.specs.Pattern.{MatchesLater}
use Rattle.config_file.proofs.pattern.found_below.Given as goal

abbrev pub invariant-places : goal.invariant-places
invariant-places l = record {
  there : MatchesLater l.fn.ignores_case true l.fn.pattern l.at
      → MatchesLater l.fn.ignores_case true l.fn.pattern l.fn.text;
  back : MatchesLater l.fn.ignores_case true l.fn.pattern l.fn.text
      → MatchesLater l.fn.ignores_case true l.fn.pattern l.at;
}

abbrev pub decreases-places : goal.decreases-places
decreases-places l = length l.at
