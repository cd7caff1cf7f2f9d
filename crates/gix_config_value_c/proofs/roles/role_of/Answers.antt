use Rattle.std.proofs.Common.{rules, true, false, sym, ap, ◌∙◌, ◌++◌}
use Rattle.config_file.specs.Views.{entry_of, section_of}
use Rattle.config_file.proofs.Patterns.{no_match}
use Rattle.gix_config_value_c.specs.Roles.HasRole.{remote_url, condition, url_condition}
use Rattle.gix_config_value_c.proofs.EntryRoles.{no_section, no_subsection, other_section, spells_condition}
use Rattle.gix_config_value_c.proofs.roles.role_of.Goals as goal

pub returns-then-is_remote_url : goal.returns-then-is_remote_url
returns-then-is_remote_url c = λ text listed.
    remote_url ((c.is_remote_url.ensures text listed).0 (search rules))

pub returns-in_default : goal.returns-in_default
returns-in_default c = λ text listed.
    no_section (entry_of c.args.entry.now)
    (no_match c.is_remote_url.result (search rules) (c.is_remote_url.ensures text listed)) (search rules)

pub returns-in_default-subsection : goal.returns-in_default-subsection
returns-in_default-subsection c = λ text listed.
    no_subsection (entry_of c.args.entry.now) c.in-Some.section.name.now
    (no_match c.is_remote_url.result (search rules) (c.is_remote_url.ensures text listed)) (search rules)

pub returns-then-not-has_name : goal.returns-then-not-has_name
returns-then-not-has_name c = λ text listed.
    other_section (entry_of c.args.entry.now) c.in-Some.section.name.now (section_of c.in-Some.section).1
    (no_match c.is_remote_url.result (search rules) (c.is_remote_url.ensures text listed)) (search rules)
    (no_match c.has_name.result (search rules) c.has_name.ensures)

pub returns-then-asks_urls : goal.returns-then-asks_urls
returns-then-asks_urls c = λ text listed.
    url_condition c.in-Some-subsection.subsection.raw.now
    (c.in-Some.section.name.now, search rules, c.has_name.ensures.0 (search rules))
    (spells_condition c.in-Some-subsection.subsection.raw.now c.deref.result.now c.parse.result true
    (λ spelled spells. c.deref.ensures.value ∙ c.in_ok-push_text.ensures spelled spells
    ∙ ap (λ t. t ++ spelled) c.new-text.ensures.items) c.parse.ensures (sym c.asks_urls.ensures ∙ search rules))

pub returns : goal.returns
returns c = λ text listed.
    condition c.in-Some-subsection.subsection.raw.now
    (c.in-Some.section.name.now, search rules, c.has_name.ensures.0 (search rules))
    (spells_condition c.in-Some-subsection.subsection.raw.now c.deref.result.now c.parse.result false
    (λ spelled spells. c.deref.ensures.value ∙ c.in_ok-push_text.ensures spelled spells
    ∙ ap (λ t. t ++ spelled) c.new-text.ensures.items) c.parse.ensures (sym c.asks_urls.ensures ∙ search rules))
