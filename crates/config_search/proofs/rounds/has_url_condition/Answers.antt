use Rattle.std.proofs.Common.{◌∙◌, sym, true≢false}
use Rattle.config_search.proofs.UrlConditions.{condition, no_condition, no_section, no_subsection, other_name}
use Rattle.config_search.proofs.rounds.has_url_condition.Goals as goal

pub returns-in_default : goal.returns-in_default
returns-in_default c = no_section c.args.entry.now c.in_default.is

pub returns-in_default-subsection : goal.returns-in_default-subsection
returns-in_default-subsection c =
    no_subsection c.args.entry.now c.in-Some.section c.in-Some.is c.in_default-subsection.is

pub returns-then-not-eq_ignore_ascii_case : goal.returns-then-not-eq_ignore_ascii_case
returns-then-not-eq_ignore_ascii_case c = other_name c.args.entry.now c.in-Some.section c.in-Some.is
    (λ same. true≢false (sym (c.eq_ignore_ascii_case.ensures.test.1 same)
    ∙ c.if-not-eq_ignore_ascii_case.true))

pub returns-in-Some-after : goal.returns-in-Some-after
returns-in-Some-after c = condition c.args.entry.now c.in-Some.section c.in-Some-subsection.subsection
    c.in-Some.is
    c.in-Some-subsection.is (c.eq_ignore_ascii_case.ensures.test.0 c.if-not-eq_ignore_ascii_case.false)
    (λ text spells. (
      c.in-Some-after.field-0.now,
      sym (rw c.new-text.ensures.items at (c.in_ok-push_text.ensures text spells)) ∙ sym
          c.deref.ensures.value ∙ c.in-Some-after.ensures,
    ))

pub returns : goal.returns
returns c = no_condition c.args.entry.now c.in-Some.section c.in-Some-subsection.subsection c.in-Some.is
    c.in-Some-subsection.is
    (λ text spells rest is. c.in-None.ensures rest (c.deref.ensures.value
    ∙ rw c.new-text.ensures.items at (c.in_ok-push_text.ensures text spells) ∙ is))
