-- The settings of a command, as the text of a file: those of GIT_CONFIG_COUNT, and then those of GIT_CONFIG_PARAMETERS, in
-- which `git -c` hands them on.
use Rattle.std.specs.Prelude.{◌≡◌, ℕ, ◌+◌, List, [], ◌∷◌, ◌++◌, Option, None, Some, Ok, codes}
use Rattle.std.specs.Fmt.{decimal}
use Rattle.config_file.specs.Command.{KeyValue, Counts, SettingsOf, AddsSettings}
use Rattle.config_search.specs.System.{System}
use Rattle.config_search.specs.declared.TheConstants.{VARIABLE}

-- this is the setting that GIT_CONFIG_KEY_0 and GIT_CONFIG_VALUE_0 give, and so on
abbrev pub IsNumbered : System → ℕ → KeyValue → Type 0
IsNumbered system number setting = (key : List ℕ) × (value : List ℕ) × (setting ≡ (key, Some value))
    × (system VARIABLE (codes "GIT_CONFIG_KEY_" ++ decimal number) ≡ Some key)
    × (system VARIABLE (codes "GIT_CONFIG_VALUE_" ++ decimal number) ≡ Some value)

-- the settings up to a number
pub data AreNumbered (system : System) : ℕ → List KeyValue → Type 0 where
  no_setting : AreNumbered system 0 []
  one_setting : {count : ℕ} {settings : List KeyValue} (setting : KeyValue) → AreNumbered system count
      settings
      → IsNumbered system count setting → AreNumbered system (count + 1) (settings ++ setting ∷ [])

abbrev pub AreCounted : System → Option (List ℕ) → List KeyValue → Type 0
AreCounted system None settings = settings ≡ []
AreCounted system (Some text) settings = (count : ℕ) × Counts text (Ok count) × AreNumbered system count
    settings

abbrev pub AreHandedOn : Option (List ℕ) → List KeyValue → Type 0
AreHandedOn None settings = settings ≡ []
AreHandedOn (Some text) settings = SettingsOf text settings

-- the text of the settings of the command: those of GIT_CONFIG_COUNT, and those of GIT_CONFIG_PARAMETERS
abbrev pub IsOfCommand : System → List ℕ → Type 0
IsOfCommand system text = (counted : List KeyValue) × (others : List KeyValue)
    × AreCounted system (system VARIABLE (codes "GIT_CONFIG_COUNT")) counted
    × AreHandedOn (system VARIABLE (codes "GIT_CONFIG_PARAMETERS")) others × AddsSettings text
    (counted ++ others)
