use Rattle.std.proofs.Common.{rules, ◌∙◌, ◌++◌, ap}
use Rattle.config_file.specs.Views.{entry_of}
use Rattle.config_file.proofs.Conditions.{no_section_forbids, no_condition_forbids, condition_forbids}
use Rattle.config_file.proofs.include.Includes.forbid.Goals as goal

pub returns-in_default : goal.returns-in_default
returns-in_default c = no_section_forbids c.args.self (entry_of c.args.entry.now) (search rules)

pub returns-in_default-subsection : goal.returns-in_default-subsection
returns-in_default-subsection c =
    no_condition_forbids c.args.self (entry_of c.args.entry.now) c.in-Some.section.name.now (search rules)

pub returns : goal.returns
returns c =
    condition_forbids c.args.self (entry_of c.args.entry.now) c.in-Some.section.name.now
    c.in-Some-subsection.subsection.raw.now c.deref.result.now c.parse.result c.forbids_urls.result (search rules)
    (λ spelled spells. c.deref.ensures.value ∙ c.in_ok-push_text.ensures spelled spells
    ∙ ap (λ t. t ++ spelled) c.new-text.ensures.items) c.parse.ensures c.forbids_urls.ensures
