use Rattle.std.proofs.Common.{None, Some, rules}
use Rattle.std.proofs.lemmas.Bool.{false≢true}
use Rattle.std.proofs.lemmas.Result.{IfOk-weaker}
use Rattle.config_checks.specs.Reasons.{HasFinding}
use Rattle.config_checks.specs.Rows.{rows_of}
use Rattle.config_checks.proofs.OneKey.{known_once}
use Rattle.config_checks.proofs.FixLemmas.{mends_if, mends_not}
use Rattle.config_checks.proofs.fix.mends_value.Goals as goal

pub returns-in_default : goal.returns-in_default
returns-in_default c =
    let rows = rows_of c.args.runs.now in
    let unknown = rw c.deref.ensures.value at c.in_default.ensures in (
      λ h. absurd (false≢true h),
      λ mends. absurd (known_once rows c.args.setting.now.key.items mends.clean.row mends.clean.decides unknown),
    )

pub returns-then-not-branch : goal.returns-then-not-branch
returns-then-not-branch c =
    let rows = rows_of c.args.runs.now in
    let row = c.in-Some.row.now in
    let options = c.args.options.now in
    let decides = rw c.deref.ensures.value at c.in-Some.ensures in
    let other : ¬ (HasFinding options row (Some c.args.new.now) None) = search rules in (
      λ h. absurd (false≢true h),
      λ mends. absurd (mends_not rows options c.args.setting.now c.args.code c.args.new.now row decides other mends),
    )

pub returns : goal.returns
returns c =
    let rows = rows_of c.args.runs.now in
    let row = c.in-Some.row.now in
    let options = c.args.options.now in
    let setting = c.args.setting.now in
    let new = c.args.new.now in
    let decides = rw c.deref.ensures.value at c.in-Some.ensures in
    let none : HasFinding options row (Some new) None = search rules in
    IfOk-weaker c.is_only_value.result _ _
    (λ b only. mends_if rows options setting c.args.code new row decides b none
    (rw c.value_of.ensures at only)) c.is_only_value.ensures
