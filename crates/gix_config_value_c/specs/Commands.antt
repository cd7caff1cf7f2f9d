-- The settings of a command, in C.
use Rattle.std.specs.Prelude.{◌≡◌, ℕ, List, ◌∷◌, [], Some, Ok, Err}
use Rattle.config_file.specs.declared.command.CommandError.{CommandError}
use Rattle.config_file.specs.declared.command.CommandError.TheVariants as error
use Rattle.config_file.specs.declared.key.KeyError.{KeyError}
use Rattle.config_file.specs.declared.key.KeyError.TheVariants as key_error
use Rattle.config_file.specs.Errors.{why_number}
use Rattle.config_file.specs.declared.errors.Why.TheVariants.{Nul}
use Rattle.config_file.specs.Command.{Accepts, AddsSettings, Counts, KeyValue, key_value, RefusesParameters}
use Rattle.config_file.specs.Command.{RefusesSetting, SettingsOf}
use Rattle.gix_config_value_c.specs.declared.status.Status.{Status}
use Rattle.gix_config_value_c.specs.declared.status.Status.TheVariants as statuses
use Rattle.gix_config_value_c.specs.Buffers.{AnswersText}
use Rattle.gix_config_value_c.specs.Numbers.{status_number}

-- the status that says why Git refuses a key
abbrev pub key_status : KeyError → Status
key_status key_error.NoSection = statuses.NoSection
key_status key_error.NoName = statuses.NoKeyName
key_status key_error.BadByte = statuses.BadKey
key_status key_error.LineFeed = statuses.KeyLineFeed

-- the number of the status that says why Git refuses the settings of a command
abbrev pub command_status : CommandError → ℕ
command_status error.BadCount = status_number statuses.BadCount
command_status error.TooMany = status_number statuses.TooManySettings
command_status (error.MissingKey number) = status_number statuses.MissingKey
command_status (error.MissingValue number) = status_number statuses.MissingValue
command_status error.BadFormat = status_number statuses.BadParameters
command_status (error.NoKey text) = status_number statuses.NoKey
command_status error.EmptyKey = status_number statuses.EmptyKey
command_status (error.Key key reason) = status_number (key_status reason)
command_status error.Nul = why_number Nul
command_status (error.Memory refused) = status_number statuses.NoMemory

-- the status says why something is refused, for which these are the reasons
abbrev pub TellsRefusal : (CommandError → Type 0) → ℕ → Type 0
TellsRefusal refuses status = (reason : CommandError) × refuses reason × (status ≡ command_status reason)

-- lines that add this setting to a file are put into the buffer, or the setting is refused
abbrev pub PutsSetting : List ℕ → List ℕ → List ℕ → List ℕ → ℕ → ℕ → ℕ → Type 0
PutsSetting key value buffer buffer' size size' status =
    let setting = key_value key (Some value) in
    AnswersText (λ lines. Accepts setting × AddsSettings lines (setting ∷ []))
    (TellsRefusal (RefusesSetting setting)) buffer buffer' size size' status

-- lines that add the settings of GIT_CONFIG_PARAMETERS to a file are put into the buffer, or one is refused
abbrev pub PutsParameters : List ℕ → List ℕ → List ℕ → ℕ → ℕ → ℕ → Type 0
PutsParameters parameters buffer buffer' size size' status = AnswersText
    (λ lines. (settings : List KeyValue) × SettingsOf parameters settings × AddsSettings lines settings)
    (TellsRefusal (RefusesParameters parameters)) buffer buffer' size size' status

-- the number of settings that GIT_CONFIG_COUNT announces is put into `count`, or it is refused
pub data CountsInto (text : List ℕ) (count count' status : ℕ) : Type 0 where
  counted : Counts text (Ok count') → status ≡ status_number statuses.Ok
      → CountsInto text count count' status
  refused : TellsRefusal (λ reason. Counts text (Err reason)) status → count' ≡ count
      → CountsInto text count count' status
