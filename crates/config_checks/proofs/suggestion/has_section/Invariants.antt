use Rattle.std.proofs.Common.{take}
use Rattle.std.specs.List.{All}
use Rattle.config_text.specs.SameWord.{SameWord}
use Rattle.config_file.specs.KeyView.{key_of}
use Rattle.config_checks.specs.Rows.{rows_of}
use Rattle.config_checks.proofs.suggestion.has_section.Given as goal

abbrev pub invariant-loop-run : goal.invariant-loop-run
invariant-loop-run l = All (λ row. ¬ (SameWord (key_of row.key).section l.section))
    (rows_of (take l.run-index l.runs))
