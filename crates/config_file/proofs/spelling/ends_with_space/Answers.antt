use Rattle.config_file.proofs.Spellings.{ends_with_space_at}
use Rattle.config_file.proofs.spelling.ends_with_space.Goals as goal

pub returns-in-len1-up : goal.returns-in-len1-up
returns-in-len1-up c = ends_with_space_at c.args.value.now c.in-len1-up.len_at_least
