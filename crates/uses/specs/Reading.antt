-- What the loop over the first files of the headline computes.
use Rattle.std.specs.Prelude.{ℕ, List, [], None}
use Rattle.config_file.specs.File.{Entry}
use Rattle.config_file.specs.Settings.{AddsEach}
use Rattle.config_file.specs.Walk.{Content}
use Rattle.config_file.specs.declared.settings.Setting.{Setting}
use Rattle.config_file.specs.declared.walk.Known.{Known}
use Rattle.uses.specs.SettingHeadline.{WalksAll}
use Rattle.uses.specs.declared.setting_headline.FirstFile.{FirstFile}

-- the settings of all entries to which the walks of the first files come
abbrev pub AreRead : (List ℕ → Content → Type 0) → Known → List FirstFile → List Setting → Type 0
AreRead contents known first settings =
    (found : List (List ℕ × Entry)) × WalksAll contents known first found None × AddsEach found [] settings
