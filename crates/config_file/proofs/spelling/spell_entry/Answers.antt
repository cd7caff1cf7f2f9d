use Rattle.std.proofs.Common.{◌≡◌, ◌∷◌, ◌++◌, ◌∙◌, ap, rules, option_copied}
use Rattle.config_file.specs.Spelling.{AddsEntry, IsLine, spelled_section}
use Rattle.config_file.specs.Reading.Spellings.{spelled_line}
use Rattle.config_file.proofs.AddedEntries.{writable_added, writable_line, not_writable}
use Rattle.config_file.proofs.spelling.spell_entry.Goals as goal

pub returns-then-not-is_writable-clause-adds : goal.returns-then-not-is_writable-clause-adds
returns-then-not-is_writable-clause-adds c =
    not_writable c.args.name.now (option_copied c.args.subsection) c.args.key.now (option_copied c.args.value) (search rules)

written : (c : goal.In_ok-push_line)
    → c.push_line.new.spelling.items ≡ (91 ∷ spelled_section c.args.name.now (option_copied c.args.subsection)) ++ spelled_line c.args.key.now (option_copied c.args.value)
written c =
    let header = 91 ∷ spelled_section c.args.name.now (option_copied c.args.subsection) in
    let line = spelled_line c.args.key.now (option_copied c.args.value) in
    let first : c.push_header.new.spelling.items ≡ header =
    c.in_ok-push_header.ensures ∙ ap (λ x. x ++ header) c.new-line.ensures.items in
    c.in_ok-push_line.ensures ∙ ap (λ x. x ++ line) first

pub returns-clause-adds : goal.returns-clause-adds
returns-clause-adds c =
    let text = option_copied c.args.subsection in
    let value = option_copied c.args.value in
    let e = written c in
    let adds : AddsEntry c.push_line.new.spelling.items c.args.name.now text c.args.key.now value =
    rw e (writable_added c.args.name.now text c.args.key.now value (search rules)) in
    adds

pub returns-clause-line : goal.returns-clause-line
returns-clause-line c =
    let text = option_copied c.args.subsection in
    let value = option_copied c.args.value in
    let e = written c in
    let is : IsLine c.push_line.new.spelling.items c.args.name.now text c.args.key.now value =
    rw e (writable_line c.args.name.now text c.args.key.now value (search rules)) in
    is
