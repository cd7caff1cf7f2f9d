use Rattle.std.proofs.Common.{◌++◌, take}
use Rattle.config_file.specs.KeyView.{key_of}
use Rattle.config_checks.specs.Rows.{rows_of}
use Rattle.config_checks.specs.Suggestions.{RowEdits}
use Rattle.config_checks.proofs.NearestLemmas.{IsBest}
use Rattle.config_checks.proofs.suggestion.nearest.Given as goal

abbrev pub invariant-runs : goal.invariant-runs
invariant-runs l = IsBest (RowEdits (key_of l.fn.key)) (rows_of (take l.place l.runs)) l.best l.least

abbrev pub invariant-rows : goal.invariant-rows
invariant-rows l =
    IsBest (RowEdits (key_of l.fn.key))
    (rows_of (take l.place l.runs) ++ take l.row-index l.row-items) l.best l.least
