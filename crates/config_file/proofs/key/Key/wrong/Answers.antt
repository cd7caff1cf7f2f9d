use Rattle.std.proofs.Common.{rules}
use Rattle.std.proofs.lemmas.List.{nil_from_length}
use Rattle.config_file.specs.Key.{no_section, no_name, bad_section, many_lines, bad_name}
use Rattle.config_file.proofs.key.Key.wrong.Goals as goal

pub returns-then-not-has_section : goal.returns-then-not-has_section
returns-then-not-has_section c = no_section (search rules)

pub returns-then-is_empty : goal.returns-then-is_empty
returns-then-is_empty c = no_name (search rules) (nil_from_length c.args.self.now.name.now (search rules))

pub returns-then-not-are_key_bytes : goal.returns-then-not-are_key_bytes
returns-then-not-are_key_bytes c = bad_section (search rules) (search rules) (search rules)

pub returns-then-not-is_one_line : goal.returns-then-not-is_one_line
returns-then-not-is_one_line c = many_lines (search rules) (search rules) (search rules) (search rules)

pub returns-then-not-is_name : goal.returns-then-not-is_name
returns-then-not-is_name c =
    bad_name (search rules) (search rules) (search rules) (search rules) (search rules)
