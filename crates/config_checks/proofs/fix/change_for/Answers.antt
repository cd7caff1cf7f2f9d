use Rattle.std.proofs.Common.{ap, option_copied}
use Rattle.config_checks.specs.Findings.{finding_of}
use Rattle.config_checks.specs.Rows.{rows_of}
use Rattle.config_checks.proofs.FixLemmas.{no_name}
use Rattle.config_checks.proofs.fix.change_for.Goals as goal

pub returns-then-branch-clause-change : goal.returns-then-branch-clause-change
returns-then-branch-clause-change c = (
  ap option_copied c.in-Some-default-default.is-0,
  rw c.deref.ensures.value at (c.in_ok-mends_value-in-Some-default-default.ensures.0 c.if-branch.true),
)

pub returns-in_default-other_name-clause-change : goal.returns-in_default-other_name-clause-change
returns-in_default-other_name-clause-change c = λ change. no_name (rows_of c.args.judge.now.runs.items) c.args.options.now
    c.args.setting.now (finding_of c.args.finding.now) c.in-None-Some-UnknownKey.key.now change
    (ap option_copied c.in-None-Some-UnknownKey.is-0) (ap option_copied c.in-None-Some-UnknownKey.is-1)
    (rw c.deref-in-None-Some-UnknownKey.ensures.value at c.in_default-other_name.ensures)
