use Rattle.std.proofs.Common.{take}
use Rattle.config_file.specs.KeyView.{key_of}
use Rattle.config_checks.specs.Rows.{rows_of}
use Rattle.config_checks.specs.Suggestions.{IsMovedRow, HasNone}
use Rattle.config_checks.proofs.suggestion.moved.Given as goal

abbrev pub invariant-loop-run : goal.invariant-loop-run
invariant-loop-run l = HasNone (IsMovedRow (key_of l.key)) (rows_of (take l.run-index l.runs))
