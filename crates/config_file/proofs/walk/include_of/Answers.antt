use Rattle.std.proofs.Common.{rules}
use Rattle.config_file.specs.Views.{entry_of}
use Rattle.config_file.proofs.Conditions.{other_key}
use Rattle.config_file.proofs.Patterns.{no_match}
use Rattle.config_file.proofs.walk.include_of.Goals as goal

pub returns-else-eq_ignore_ascii_case : goal.returns-else-eq_ignore_ascii_case
returns-else-eq_ignore_ascii_case c =
    other_key c.args.known.now.includes c.args.place.real_dir.now (entry_of c.args.entry.now)
    (no_match c.eq_ignore_ascii_case.result (search rules) c.eq_ignore_ascii_case.ensures.test)
