use Rattle.std.proofs.Common.{take}
use Rattle.config_file.specs.KeyView.{key_of}
use Rattle.config_url.specs.Reading.Fits.{BestOf}
use Rattle.config_file.specs.Settings.{AreListed}
use Rattle.config_url.specs.UrlView.{url_of, fit_in}
use Rattle.config_url.proofs.last_for_url.Given as goal

abbrev pub invariant-loop-setting : goal.invariant-loop-setting
invariant-loop-setting l = AreListed l.fn.settings.entries.items
    → BestOf fit_in (key_of l.fn.key) (url_of l.fn.url) (take l.setting-index l.fn.settings.entries.items) l.best
