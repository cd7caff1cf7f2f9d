use Rattle.std.proofs.Common.{rules}
use Rattle.config_file.specs.Views.{entry_of, section_of}
use Rattle.config_file.proofs.Remotes.{no_remote, dotted_remote}
use Rattle.config_file.proofs.include.is_remote_url.Goals as goal

pub returns-in-Some-len1-up : goal.returns-in-Some-len1-up
returns-in-Some-len1-up c text listed =
    dotted_remote (entry_of c.args.entry.now) c.in-Some.section.name.now c.in-Some-len1-up.field-0.now
    (section_of c.in-Some.section).1 listed (search rules) (c.eq_ignore_ascii_case.ensures.test.0 (search rules))
    c.in-Some-len1-up.ensures (search rules)

pub returns-in-None : goal.returns-in-None
returns-in-None c text listed =
    no_remote (entry_of c.args.entry.now) c.in-Some.section.name.now (section_of c.in-Some.section).1
    (search rules) c.in-None.ensures
