use Rattle.std.proofs.Common.{refl}
use Rattle.config_text.specs.Settings.{absent}
use Rattle.config_text.proofs.SettingsLemmas.{finds_at, refuses_at}
use Rattle.config_text.proofs.settings.lookup.Goals as goal

pub returns-in_default : goal.returns-in_default
returns-in_default g c = absent c.in_default.ensures refl

pub returns-in-Some-read : goal.returns-in-Some-read
returns-in-Some-read g c = finds_at _ _ _ _ _ _ _ _ c.in-Some.ensures c.new.ensures c.in-Some-read.ensures

pub returns-in-None : goal.returns-in-None
returns-in-None g c = refuses_at _ _ _ _ _ _ c.in-Some.ensures c.new.ensures c.in-None.ensures
