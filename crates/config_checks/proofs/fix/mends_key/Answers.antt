use Rattle.std.proofs.Common.{rules}
use Rattle.std.proofs.lemmas.Result.{IfOk-weaker}
use Rattle.config_checks.specs.Fixes.{IsClean}
use Rattle.config_checks.specs.Rows.{rows_of}
use Rattle.config_checks.specs.Settings.{value_of}
use Rattle.config_checks.proofs.FixLemmas.{key_if}
use Rattle.config_checks.proofs.fix.mends_key.Goals as goal

pub returns-clause-mends : goal.returns-clause-mends
returns-clause-mends c =
    let judge = c.args.judge.now in
    let rows = rows_of judge.runs.items in
    let setting = c.args.setting.now in
    let key = c.args.key.now in
    let back = rows_of judge.backwards.items in
    let clean : IsClean rows c.args.options.now key (value_of setting) = search rules in
    IfOk-weaker c.is_only_key.result _ _
    (λ b only. key_if rows back c.args.options.now setting key b judge.order clean
    (rw c.deref-2.ensures.value at only)) c.is_only_key.ensures.only
