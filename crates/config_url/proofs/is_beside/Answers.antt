use Rattle.std.proofs.Common.{◌∙◌, sym, true≢false}
use Rattle.config_url.specs.UrlView.{url_of}
use Rattle.config_url.proofs.UrlMatches.{not_below}
use Rattle.config_url.proofs.is_beside.Goals as goal

pub returns-then-not-is_at_or_below : goal.returns-then-not-is_at_or_below
returns-then-not-is_at_or_below c = λ own p is.
    not_below p (url_of c.args.url.now) c.args.path.now c.without_slash.result.now (c.is_own_form.ensures own) is
    c.without_slash.ensures (λ below. true≢false (sym (c.is_at_or_below.ensures.1 (rw c.deref.ensures.value below))
    ∙ c.if-not-is_at_or_below.true))
