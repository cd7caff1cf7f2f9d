use Rattle.std.proofs.Common.{◌≡◌, ◌++◌, take}
use Rattle.config_checks.specs.Findings.{listed}
use Rattle.config_checks.proofs.finding.push_listed.Given as goal

abbrev pub invariant-loop-word : goal.invariant-loop-word
invariant-loop-word l = l.out.items ≡ l.initial.out.items ++ listed (take l.word-index l.rest)
