use Rattle.config_url.proofs.UrlPieces.{counted}
use Rattle.config_url.proofs.parts.cut_place.Goals as goal

pub returns : goal.returns
returns c = counted c.place_length.ensures.count c.split_at.ensures.front c.split_at.ensures.back
