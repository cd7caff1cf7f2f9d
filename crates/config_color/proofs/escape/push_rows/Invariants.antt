use Rattle.std.proofs.Common.{map, take}
use Rattle.config_color.specs.Escape.{row_codes}
use Rattle.config_color.specs.Reading.Escape.{Continues, code_row, size}
use Rattle.config_color.proofs.escape.push_rows.Given as goal

-- the codes of the rows so far are there
abbrev pub invariant-loop-row : goal.invariant-loop-row
invariant-loop-row l =
    Continues (row_codes l.set.0 (map code_row (take l.row-index l.rows))) (size (map code_row (take l.row-index l.rows)))
    l.fn.text.bytes l.text.bytes
