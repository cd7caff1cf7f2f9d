use Rattle.config_url.specs.UrlView.{fit_in}
use Rattle.config_url.proofs.UrlFits.{is_found}
use Rattle.config_url.proofs.is_of_url.Goals as goal

pub returns : goal.returns
returns c = λ text listed.
    is_found fit_in c.in_ok-fit_of.field-0 c.is_some.result c.is_some.ensures
    (c.in_ok-fit_of.ensures text listed)
