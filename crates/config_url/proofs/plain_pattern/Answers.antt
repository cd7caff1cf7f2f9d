use Rattle.std.proofs.Common.{rules}
use Rattle.config_file.specs.KeyView.{key_of}
use Rattle.config_file.specs.Views.{entry_of}
use Rattle.config_url.proofs.UrlPatterns.{under_pattern}
use Rattle.config_url.proofs.plain_pattern.Goals as goal

pub returns-then-is_empty : goal.returns-then-is_empty
returns-then-is_empty c = λ text listed none.
    under_pattern (key_of c.args.key.now) (entry_of c.args.entry.now) {name = c.in_ok-section.section.name.now}
    listed (search rules) c.run.ensures (search rules) (search rules) (search rules)
    c.args.key.now.section_has_no_dot c.args.key.now.name_has_no_dot none
