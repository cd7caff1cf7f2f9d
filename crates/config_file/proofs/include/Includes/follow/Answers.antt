use Rattle.std.proofs.Common.{rules, ◌∙◌, ◌++◌, ap}
use Rattle.config_file.specs.Views.{entry_of}
use Rattle.config_file.proofs.Conditions.{no_section, no_include, no_condition, if_always, if_named}
use Rattle.config_file.proofs.Patterns.{no_match}
use Rattle.config_file.proofs.include.Includes.follow.Goals as goal

pub returns-in_default : goal.returns-in_default
returns-in_default c = no_section c.args.self c.args.real_dir.now (entry_of c.args.entry.now) (search rules)

pub returns-then-not-eq_ignore_ascii_case : goal.returns-then-not-eq_ignore_ascii_case
returns-then-not-eq_ignore_ascii_case c =
    no_include c.args.self c.args.real_dir.now (entry_of c.args.entry.now) c.in-Some.section.name.now
    (search rules)
    (no_match c.eq_ignore_ascii_case.result (search rules) c.eq_ignore_ascii_case.ensures.test)

pub returns-in_default-subsection : goal.returns-in_default-subsection
returns-in_default-subsection c =
    if_always c.args.self c.args.real_dir.now (entry_of c.args.entry.now) c.in-Some.section.name.now c.hold.result
    c.requires.path (search rules)
    (c.eq_ignore_ascii_case.ensures.test.0 (search rules)) c.hold.ensures

pub returns-then-not-eq_ignore_ascii_case-2 : goal.returns-then-not-eq_ignore_ascii_case-2
returns-then-not-eq_ignore_ascii_case-2 c =
    no_condition c.args.self c.args.real_dir.now (entry_of c.args.entry.now) c.in-Some.section.name.now
    c.in-Some-subsection.subsection.raw.now (search rules)
    (no_match c.eq_ignore_ascii_case-2.result (search rules) c.eq_ignore_ascii_case-2.ensures.test)

pub returns : goal.returns
returns c =
    if_named c.args.self c.args.real_dir.now (entry_of c.args.entry.now) c.in-Some.section.name.now
    c.in-Some-subsection.subsection.raw.now c.deref.result.now c.parse.result c.hold-2.result
    c.requires.path (search rules)
    (c.eq_ignore_ascii_case-2.ensures.test.0 (search rules))
    (λ spelled spells. c.deref.ensures.value ∙ c.in_ok-push_text.ensures spelled spells
    ∙ ap (λ t. t ++ spelled) c.new-text.ensures.items) c.parse.ensures c.hold-2.ensures
