use Rattle.std.proofs.Common.{◌≡◌, ◌++◌, length}
use Rattle.config_checks.specs.Findings.{shown}
use Rattle.config_checks.proofs.finding.push_shown.Given as goal

abbrev pub invariant-loop-character : goal.invariant-loop-character
invariant-loop-character l = l.out.items ++ shown l.rest ≡ l.fn.out.items ++ shown l.fn.text

abbrev pub decreases-loop-character : goal.decreases-loop-character
decreases-loop-character l = length l.rest
