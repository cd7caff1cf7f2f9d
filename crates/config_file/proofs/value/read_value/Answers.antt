use Rattle.std.proofs.Common.{sym, ◌∙◌}
use Rattle.config_file.proofs.Plain.{plain_is_unmarked}
use Rattle.config_file.proofs.Values.{bad_unless_nul, passed_plain, plain_lines, stops_plain, takes_plain}
use Rattle.config_file.proofs.value.read_value.Goals as goal

pub read_marked-requires : goal.read_marked-requires
read_marked-requires c =
    record { passed = passed_plain c.run.ensures; counted = plain_lines c.run.ensures }

pub returns-in-Nul : goal.returns-in-Nul
returns-in-Nul c = stops_plain c.run.ensures (sym c.why_at.ensures ∙ c.in-Nul.is)

pub returns-in_default : goal.returns-in_default
returns-in_default c = (
  takes_plain c.run.ensures (sym c.begins_with_mark.ensures ∙ c.if-begins_with_mark.false)
      (bad_unless_nul c.run.result.1.now (λ is. c.in_default.not-Nul (c.why_at.ensures ∙ is))),
  plain_is_unmarked c.run.result.0.now c.run.ensures.pass,
)
