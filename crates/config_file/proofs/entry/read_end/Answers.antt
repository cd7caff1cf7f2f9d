use Rattle.std.proofs.Common.{rules}
use Rattle.config_file.specs.File as file
use Rattle.config_file.proofs.ReadEntries.{takes_key, ends_as_value}
use Rattle.config_file.proofs.entry.read_end.Goals as goal
use Rattle.config_file.proofs.entry.read_end.Goals.{then-is_at_line_end, else-is_at_line_end}

pub returns-in-Some : goal.returns-in-Some
returns-in-Some c =
    let takes = takes_key _ c.run.ensures c.past_spaces-rest.ensures.1 in
    ends_as_value c.read_value-end.result.form _ _ _ (rw c.in-Some.ensures at takes) c.read_value-end.ensures

pub returns : goal.returns
returns c =
    let takes = takes_key _ c.run.ensures c.past_spaces-rest.ensures.1 in
    elim c.if-is_at_line_end.branch [
      | then-is_at_line_end w ↦ rw w.form-is (file.alone takes (search rules), tt)
      | else-is_at_line_end w ↦ rw w.form-is (file.key takes c.in_default.ensures (search rules))
    ]
