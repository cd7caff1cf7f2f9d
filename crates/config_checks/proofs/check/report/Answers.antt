use Rattle.std.proofs.Common.{◌+◌, ◌∷◌, ◌∙◌, [], option_map, refl, sym, ap}
use Rattle.config_checks.specs.Rows.{rows_of}
use Rattle.config_checks.specs.Report.{right, found, counted, reason_finding}
use Rattle.config_checks.specs.Reading.Steps.{said_findings}
use Rattle.config_checks.proofs.CheckLemmas.{receives-nil, said_nothing, said_something}
use Rattle.config_checks.proofs.check.report.Goals.{then-branch, else-branch}
use Rattle.config_checks.proofs.check.report.Goals as goal

pub returns-in_default-clause-ok : goal.returns-in_default-clause-ok
returns-in_default-clause-ok g c =
    let rows = rows_of c.args.runs.now in
    let setting = c.args.setting.now in
    let s = c.args.progress.counts in
    let text = option_map (λ t. t.items) c.in-Ok.said.reason in
    let meant = option_map (λ t. t.items) c.in-Ok.said.meant in
    let is = rw c.deref.ensures.value at c.in_default.ensures.row in
    let said = rw (c.in-Ok.ensures.0 ∙ c.deref-in_default.ensures.value) at c.in-Ok.ensures.1.0 in
    let reported = c.in_ok-give_said.ensures.reported in
    elim c.if-branch.branch [
      | then-branch w ↦ rw w.counts-is
          (rw (w.with-counts.ensures, c.unknown_severity-severity.ensures, c.deref-in_default-2.ensures.value) (
            said_findings s.entries setting c.in-Ok.said,
            said_something rows c.args.options.now setting s text meant said (sym reported ∙ w.if-branch.true),
            c.in_ok-give_said.ensures.ok,
          ))
      | else-branch w ↦ rw w.counts-is (
        said_findings s.entries setting c.in-Ok.said,
        said_nothing rows c.args.options.now setting s text meant is said (sym reported ∙ w.if-branch.false),
        c.in_ok-give_said.ensures.ok,
      )
    ]

pub returns-in_ok-give_reason-in-Ok-Some-clause-ok : goal.returns-in_ok-give_reason-in-Ok-Some-clause-ok
returns-in_ok-give_reason-in-Ok-Some-clause-ok g c =
    let row = c.in-Some.row.now in
    let reason = c.in-Ok-Some.reason in
    let s = c.args.progress.counts in
    let bad = rw c.in-Ok-Some.field-0-is at c.in-Ok-Some.ensures in (
      reason_finding s.entries c.args.setting.now row reason ∷ [],
      found row reason (rw c.deref.ensures.value at c.in-Some.ensures.row) (rw c.value_of-value.ensures at bad) refl
          (c.with-counts-in-Ok-Some.ensures
          ∙ ap (λ v. counted v (record s { entries = s.entries + 1 })) c.severity.ensures),
      c.in_ok-give_reason-in-Ok-Some.ensures.ok,
    )

pub returns-in-Ok-None-clause-ok : goal.returns-in-Ok-None-clause-ok
returns-in-Ok-None-clause-ok g c =
    let row = c.in-Some.row.now in
    let good = rw c.in-Ok-None.field-0-is at c.in-Ok-None.ensures in (
      [],
      right row (rw c.deref.ensures.value at c.in-Some.ensures.row) (rw c.value_of-value.ensures at good) refl refl,
      receives-nil _,
    )
