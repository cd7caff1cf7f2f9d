use Rattle.std.proofs.Common.{sym, ◌∙◌}
use Rattle.std.proofs.lemmas.Bool.{false≢true}
use Rattle.config_checks.proofs.table.read_row.Goals as goal

pub returns-in-Ok-false-clause-refused : goal.returns-in-Ok-false-clause-refused
returns-in-Ok-false-clause-refused c =
    let spells = rw c.in-Some.is at c.in_ok-row.ensures.row in (
      c.in-Some.row,
      spells,
      λ takes. absurd (false≢true (sym c.in-Ok-false.field-0-test ∙ c.in-Ok-false.ensures.1 takes)),
    )
