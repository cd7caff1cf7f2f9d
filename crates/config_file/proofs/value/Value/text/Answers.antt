use Rattle.std.proofs.Common.{sym, ◌∙◌, true≢false}
use Rattle.config_file.proofs.Plain.{unmarked_text}
use Rattle.config_file.proofs.value.Value.text.Goals as goal

pub returns-then-is_unmarked_run-clause-spelled : goal.returns-then-is_unmarked_run-clause-spelled
returns-then-is_unmarked_run-clause-spelled c = λ spelled ending s.
    c.trimmed.ensures (sym c.is_unmarked_run.ensures ∙ c.if-is_unmarked_run.true) spelled ending s

pub returns-in_err-to_vec-clause-borrowed : goal.returns-in_err-to_vec-clause-borrowed
returns-in_err-to_vec-clause-borrowed c = λ no_quote no_backslash. absurd (true≢false
    (sym (unmarked_text _ no_quote no_backslash) ∙ sym c.is_unmarked_run.ensures ∙ c.if-is_unmarked_run.false))

pub returns-clause-borrowed : goal.returns-clause-borrowed
returns-clause-borrowed c = λ no_quote no_backslash. absurd (true≢false
    (sym (unmarked_text _ no_quote no_backslash) ∙ sym c.is_unmarked_run.ensures ∙ c.if-is_unmarked_run.false))
