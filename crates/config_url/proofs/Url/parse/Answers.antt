use Rattle.config_url.specs.UrlView.{parts_of, url_of}
use Rattle.config_url.proofs.UrlMatches.{read_is}
use Rattle.config_url.proofs.Url.parse.Goals as goal

pub returns-in-Some : goal.returns-in-Some
returns-in-Some c =
    read_is url_of (parts_of c.in-Some.parts) c.of_parts.result c.in-Some.ensures c.of_parts.ensures
