use Rattle.std.proofs.Common.{◌≡◌, ◌∷◌, ◌++◌, ◌∙◌, ap, rules, option_copied}
use Rattle.config_file.specs.Spelling.{IsGitHeader, spelled_section}
use Rattle.config_file.proofs.SpelledHeaders.{header_spelled, no_header}
use Rattle.config_file.proofs.spelling.spell_header.Goals as goal

pub returns-then-not-is_section : goal.returns-then-not-is_section
returns-then-not-is_section c = no_header c.args.name.now (option_copied c.args.subsection) (search rules)

pub returns : goal.returns
returns c =
    let name = c.args.name.now in
    let text = option_copied c.args.subsection in
    let written : c.push_header.new.spelling.items ≡ 91 ∷ spelled_section name text =
    c.in_ok-push_header.ensures ∙ ap (λ x. x ++ 91 ∷ spelled_section name text) c.new-spelling.ensures.items in
    let is : IsGitHeader c.push_header.new.spelling.items name text =
    (rw written (header_spelled name text (search rules)), written) in
    is
