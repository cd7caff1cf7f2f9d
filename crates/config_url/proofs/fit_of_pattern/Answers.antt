use Rattle.config_url.specs.UrlView.{fit_in, parts_of, url_of}
use Rattle.config_url.proofs.UrlFits.{fits_by}
use Rattle.config_url.proofs.UrlMatches.{no_url}
use Rattle.config_url.proofs.UrlParts.{written_only}
use Rattle.config_url.proofs.fit_of_pattern.Goals as goal

pub returns-in_default : goal.returns-in_default
returns-in_default c = λ p is match. c.in_default.ensures is.0 is.1

pub returns-then-is_beside : goal.returns-then-is_beside
returns-then-is_beside c = λ p is match.
    c.is_beside.ensures c.if-is_beside.true p
    (rw (written_only is.0 (parts_of c.in-Some.parts) is.1 c.in-Some.ensures) at is.2.path) match

pub returns-in-None : goal.returns-in-None
returns-in-None c = λ p is match.
    no_url (parts_of c.in-Some.parts) c.in-Some.ensures (rw c.in-None.is at c.in_ok-pattern.ensures) p is

pub returns-in-Some-2 : goal.returns-in-Some-2
returns-in-Some-2 c =
    fits_by fit_in (url_of c.args.url.now) c.fit.result
    (parts_of c.in-Some.parts, c.in-Some.ensures, rw c.in-Some-2.is at c.in_ok-pattern.ensures) c.fit.ensures
