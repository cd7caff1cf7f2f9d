use Rattle.std.proofs.Common.{rules, ap, ◌∙◌, get_or}
use Rattle.config_file.specs.KeyView.{key_of}
use Rattle.config_url.specs.UrlView.{url_of, fit_in}
use Rattle.config_file.proofs.Last.{at_index}
use Rattle.config_url.proofs.UrlFits.{best_next, best_done}
use Rattle.config_url.proofs.last_for_url.Goals as goal

pub loop-setting-preserved : goal.loop-setting-preserved
loop-setting-preserved c =
    best_next fit_in (key_of c.args.key.now) (url_of c.args.url.now) c.args.settings.now.entries.items
    c.loop-setting.setting-index c.setting-item.result c.loop-setting.best c.in_ok-best.best
    (at_index c.args.settings.now.entries.items c.loop-setting.setting-index c.setting-item.result (search rules)
    (c.setting-item.is
    ∙ ap (λ s. get_or s c.loop-setting.setting-index c.setting-item.result) c.deref-setting-items.ensures.value))
    (search rules) c.in_ok-best.ensures c.loop-setting.invariant

pub returns-in-None : goal.returns-in-None
returns-in-None c listed =
    rw c.in-None.is at (best_done fit_in (key_of c.args.key.now) (url_of c.args.url.now) c.args.settings.now.entries.items
    c.loop-setting.setting-index c.loop-setting.best (search rules) c.loop-setting.invariant listed)
