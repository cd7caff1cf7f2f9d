use Rattle.std.proofs.Common.{rules, ◌≡◌, true, false}
use Rattle.config_file.specs.KeyView.{key_of}
use Rattle.config_file.specs.Reading.Spellings.{is_section}
use Rattle.config_file.proofs.SpelledHeaders.{no_header}
use Rattle.config_file.proofs.Commands.{never_without_header}
use Rattle.config_edit.proofs.parse_key.Goals as goal

pub returns-then-is_section : goal.returns-then-is_section
returns-then-is_section c =
    let key = key_of c.in-Ok.key in
    let is : is_section key.section key.subsection ≡ true = search rules in
    (c.in-Ok.ensures, is, never_without_header key.section key.subsection is)

pub returns-else-is_section : goal.returns-else-is_section
returns-else-is_section c =
    let key = key_of c.in-Ok.key in
    let refused : is_section key.section key.subsection ≡ false = search rules in
    (key, c.in-Ok.ensures, no_header key.section key.subsection refused)
