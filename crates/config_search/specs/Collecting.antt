-- All settings that Git reads in a folder.
use Rattle.std.specs.Prelude.{◌≡◌, ◌++◌, ◌∷◌, [], ℕ, List, Option}
use Rattle.config_file.specs.Settings.{IsSettingOf}
use Rattle.config_file.specs.declared.settings.Setting.{Setting}
use Rattle.config_file.specs.declared.settings.Settings.{Settings}
use Rattle.config_search.specs.System.{System}
use Rattle.config_search.specs.Folder.{Here, Reads}
use Rattle.config_search.specs.Reads.{ReadEntry, Whole}
use Rattle.config_search.specs.declared.answer.Answer.{Answer}
use Rattle.config_search.specs.declared.known.Follows.TheVariants.{AsGit}
use Rattle.config_search.specs.declared.settings.Collector.{Collector}

-- the setting of an entry that is read, with its scope, its file and its line
abbrev pub IsSettingOfRead : ReadEntry → Setting → Type 0
IsSettingOfRead it setting = IsSettingOf (it.file, it.entry) setting × (setting.scope ≡ it.scope)

-- the settings of these entries, in order
pub data AreSettingsOf : List ReadEntry → List Setting → Type 0 where
  none : AreSettingsOf [] []
  one_more : {read : List ReadEntry} {settings : List Setting} (it : ReadEntry) (setting : Setting)
      → AreSettingsOf read settings → IsSettingOfRead it setting
      → AreSettingsOf (read ++ it ∷ []) (settings ++ setting ∷ [])

-- an entry is kept as a setting
abbrev pub Collects : Collector → ReadEntry → Collector → Type 0
Collects old it new = (setting : Setting) × IsSettingOfRead it setting
    × (new.settings.entries.items ≡ old.settings.entries.items ++ setting ∷ [])

-- in this folder Git reads these settings, to the end
abbrev pub AreSettingsHere : System → List ℕ → Settings → Type 0
AreSettingsHere system folder settings = (answer : Option Answer) × (read : List ReadEntry)
    × Reads system folder AsGit Here answer read Whole × AreSettingsOf read settings.entries.items
