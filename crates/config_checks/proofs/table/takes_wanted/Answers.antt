use Rattle.std.proofs.Common.{None, Some, rules}
use Rattle.std.proofs.lemmas.Bool.{false≢true}
use Rattle.config_checks.proofs.OneFinding.{reason_or_none}
use Rattle.config_checks.proofs.table.takes_wanted.Goals as goal

pub returns-in-Ok-Some : goal.returns-in-Ok-Some
returns-in-Ok-Some c =
    let wrong = rw c.in-Ok-Some.field-0-is at c.in-Ok-Some.ensures in (
      λ no. absurd (false≢true no),
      λ takes. absurd (reason_or_none None c.args.row.now (Some c.in-Some.wanted.now) c.in-Ok-Some.field-0-0 wrong
          (takes c.in-Some.wanted.now (search rules))),
    )
