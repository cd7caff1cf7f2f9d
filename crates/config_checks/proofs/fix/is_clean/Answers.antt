use Rattle.std.proofs.lemmas.Bool.{false≢true}
use Rattle.std.proofs.lemmas.Result.{IfOk-weaker}
use Rattle.config_checks.specs.Rows.{rows_of}
use Rattle.config_checks.proofs.OneKey.{known_once}
use Rattle.config_checks.proofs.FixLemmas.{clean_if}
use Rattle.config_checks.proofs.fix.is_clean.Goals as goal

pub returns-in-Some : goal.returns-in-Some
returns-in-Some c = IfOk-weaker c.has_none.result _ _
    (λ b is. clean_if (rows_of c.args.runs.now) c.args.options.now c.args.key.now _ c.in-Some.row.now b c.in-Some.ensures is)
    c.has_none.ensures

pub returns-in-None : goal.returns-in-None
returns-in-None c = (
  λ no. absurd (false≢true no),
  λ clean. absurd (known_once (rows_of c.args.runs.now) c.args.key.now clean.row clean.decides c.in-None.ensures),
)
