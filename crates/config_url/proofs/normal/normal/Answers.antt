use Rattle.config_url.proofs.UrlNormal.{goes_end}
use Rattle.config_url.proofs.normal.normal.Goals as goal

pub returns : goal.returns
returns c = goes_end c.bytes.invariant c.in_default.ensures
