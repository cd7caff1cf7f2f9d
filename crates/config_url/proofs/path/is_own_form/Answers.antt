use Rattle.std.proofs.Common.{◌∙◌, sym}
use Rattle.config_url.proofs.UrlPaths.{own_path}
use Rattle.config_url.proofs.path.is_own_form.Goals as goal

pub returns-then-first-eq47 : goal.returns-then-first-eq47
returns-then-first-eq47 c = λ own.
    rw (c.in-Some.ensures, c.if-first-eq47.true) (own_path c.in-Some.rest.now (sym c.are_own_bytes.ensures ∙ own))
