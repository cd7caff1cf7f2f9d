use Rattle.std.proofs.Common.{take}
use Rattle.config_checks.specs.Rows.{rows_of}
use Rattle.config_checks.specs.Suggestions.{HasNone}
use Rattle.config_checks.proofs.RunLemmas.{IsSlot}
use Rattle.config_checks.proofs.suggestion.has_slots.Given as goal

abbrev pub invariant-loop-run : goal.invariant-loop-run
invariant-loop-run l = HasNone (IsSlot l.subsection) (rows_of (take l.run-index l.runs))
