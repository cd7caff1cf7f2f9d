use Rattle.std.proofs.Common.{rules, inr}
use Rattle.config_checks.proofs.table.push_row.Goals.{in-Ok, in-Err}
use Rattle.config_checks.proofs.table.push_row.Goals as goal

pub returns-clause-adds : goal.returns-clause-adds
returns-clause-adds c =
    let is_row = rw c.in-Some.is at c.in_ok-row.ensures.row in
    elim c.match-push.branch [
      | in-Ok w ↦ rw w.result-is (inr (c.in-Some.row, is_row, search rules))
      | in-Err w ↦ rw w.result-is tt
    ]
