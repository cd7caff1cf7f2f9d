use Rattle.config_file.proofs.Subsections.{ends_apart}
use Rattle.config_file.proofs.section.Subsection.ends_unlike.Goals as goal

pub returns-in-len1-up-raw : goal.returns-in-len1-up-raw
returns-in-len1-up-raw c =
    ends_apart c.args.self.now.raw.now c.args.text.now c.in-len1-up-raw.len_at_least c.in-len1-up.len_at_least
