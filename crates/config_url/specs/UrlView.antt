-- What the structs of URLs hold, as bytes.
use Rattle.std.specs.Prelude.{option_copied, option_map}
use Rattle.config_url.specs.declared.Url as code
use Rattle.config_url.specs.declared.Fit as fits
use Rattle.config_url.specs.declared.parts.SplitUrl as written
use Rattle.config_url.specs.Url.{Url, url, SplitUrl, Fit, fit}

-- the parts of a URL as they are written
abbrev pub parts_of : written.SplitUrl → SplitUrl
parts_of p = record {
  scheme = p.scheme.now;
  login = option_copied p.login;
  host = p.host.now;
  port = option_copied p.port;
  path = p.path.now;
}

-- a URL in normal form
abbrev pub url_of : code.Url → Url
url_of u = url u.scheme.items (option_map (λ user. user.items) u.user) u.host.items u.port u.path.items

-- a fit
abbrev pub fit_in : fits.Fit → Fit
fit_in f = fit f.host f.path f.has_user
