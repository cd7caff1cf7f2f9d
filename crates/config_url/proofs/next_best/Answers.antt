use Rattle.std.proofs.Common.{sym, ◌∙◌}
use Rattle.std.proofs.lemmas.Bool.{false≢true}
use Rattle.config_file.specs.KeyView.{key_of}
use Rattle.config_url.specs.UrlView.{url_of, fit_in}
use Rattle.config_url.proofs.UrlFits.{best_lacks, best_only, best_kept, best_taken}
use Rattle.config_url.proofs.next_best.Goals as goal

pub returns-in_default : goal.returns-in_default
returns-in_default c settings text listed before =
    best_lacks fit_in (key_of c.args.key.now) (url_of c.args.url.now) settings c.args.setting.now c.args.best
    (rw c.in_default.is at (c.in_ok-fit.ensures text listed)) before

pub returns-in_default-best : goal.returns-in_default-best
returns-in_default-best c settings text listed before =
    let (fits, only) = rw c.in-Some.is at (c.in_ok-fit.ensures text listed) in
    best_only fit_in (key_of c.args.key.now) (url_of c.args.url.now) settings c.in-Some.fit c.args.setting fits only
    (rw c.in_default-best.is at before)

pub returns-then-is_below : goal.returns-then-is_below
returns-then-is_below c settings text listed before =
    let (fits, only) = rw c.in-Some.is at (c.in_ok-fit.ensures text listed) in
    best_kept fit_in (key_of c.args.key.now) (url_of c.args.url.now) settings c.args.setting.now (fit_in c.in-Some.fit)
    c.in-Some-best.other c.in-Some-best.kept only (c.is_below.ensures.0 c.if-is_below.true)
    (rw c.in-Some-best.is at before)

pub returns : goal.returns
returns c settings text listed before =
    let (fits, only) = rw c.in-Some.is at (c.in_ok-fit.ensures text listed) in
    best_taken fit_in (key_of c.args.key.now) (url_of c.args.url.now) settings c.in-Some.fit c.args.setting fits only
    c.in-Some-best.other c.in-Some-best.kept (λ closer. false≢true (sym c.if-is_below.false ∙ c.is_below.ensures.1 closer))
    (rw c.in-Some-best.is at before)
