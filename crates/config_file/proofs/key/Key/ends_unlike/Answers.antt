use Rattle.config_file.proofs.Keys.{ends_elsewhere}
use Rattle.config_file.proofs.key.Key.ends_unlike.Goals as goal

pub returns-in-Some-subsection : goal.returns-in-Some-subsection
returns-in-Some-subsection c apart h =
    ends_elsewhere c.args.self.now.section.now c.in-Some.text.now (c.ends_unlike.ensures apart)
    (rw (c.in-Some-subsection.is, c.in-Some.is) at h)
