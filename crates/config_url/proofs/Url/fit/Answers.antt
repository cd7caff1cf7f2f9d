use Rattle.std.proofs.Common.{rules, refl, ◌+◌, length}
use Rattle.config_url.specs.UrlView.{url_of}
use Rattle.config_url.proofs.UrlMatches.{matches, fit_same}
use Rattle.config_url.proofs.Url.fit.Goals as goal

pub returns : goal.returns
returns c = (
  matches (url_of c.args.self.now) (url_of c.args.url.now) c.without_slash-path.result.now (search rules) (search rules)
      (search rules) (search rules) (search rules) (search rules),
  fit_same (url_of c.args.self.now) c.without_slash-path.result.now c.len.result
      (length c.without_slash-path.result.now + 1) c.is_some.result (search rules) (search rules) refl (search rules),
)
