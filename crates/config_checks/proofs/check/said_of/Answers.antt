use Rattle.std.proofs.Common.{◌≡◌, sym, subst, rules}
use Rattle.config_checks.specs.Rows.{rows_of}
use Rattle.config_checks.specs.Suggestions.{IsPassed}
use Rattle.config_checks.specs.Suggestions.IsPassed.{no_dot}
use Rattle.config_checks.proofs.check.said_of.Goals as goal

pub returns-in_default : goal.returns-in_default
returns-in_default c =
    let rows = rows_of c.args.runs.now in
    let same : c.in_ok-to_vec.field-0.items ≡ c.args.key.now = search rules in
    (same, (subst (IsPassed rows) (sym same) (no_dot c.in_default.ensures), c.requires.last))
