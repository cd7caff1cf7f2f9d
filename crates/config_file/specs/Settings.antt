-- Settings: the entries of files in order, each with the text of its value for a reader.
--
-- Look for: `IsLast`: no later setting has the key. `Gets`: a refused text has no value, and `NoValue` is a
-- key alone. A key alone is the text `true`, but an empty path. `IsValueOf` speaks of every text that the
-- bytes spell. `TellsStop` tells a stop by its own file, line and reason. `AddsInScope` speaks of the same
-- added settings as `AddsEach`, since the old ones stay in front. `Picks` keeps the order and leaves no
-- such setting out. `HasSubsection` cuts the listed key, so `[a.b]` has the subsection `b`.
use denote.Ref.{Bor}
use Rattle.std.specs.Prelude.{◌≡◌, ◌≢◌, Contains, Bool, true, false, ℕ, List, ◌∷◌, [], ◌++◌, ◌+◌, length}
use Rattle.std.specs.Prelude.{Option, Some, None, map, codes, option_map, Result, Ok, Err, ⊤}
use Rattle.std.specs.Char.{to_ascii_lowercase}
use Rattle.std.specs.Cow.{cow_slice_items}
use Rattle.std.specs.Fmt.{decimal}
use Rattle.std.specs.List.{slice_get, All, AllWithin, AllZip}
use Rattle.std.specs.Option.{option_map_or}
use Rattle.config_text.specs.Faults as reasons
use Rattle.config_text.specs.Refusals.{ReadsOr}
use Rattle.config_text.specs.Value.{IsRefused}
use Rattle.config_text.specs.declared.errors.Fault.{Fault}
use Rattle.config_path.specs.declared.interpolate.Error as path_errors
use Rattle.config_path.specs.declared.parts.Parts.{Parts}
use Rattle.config_path.specs.Interpolation as paths
use Rattle.config_path.specs.Interpolation.{PathTable}
use Rattle.config_path.specs.Parts.{parts_result}
use Rattle.config_path.specs.Path.{Marked}
use Rattle.config_file.specs.Errors.{name_shown, stop_shown, why_text}
use Rattle.config_file.specs.File.{Entry, IsFile}
use Rattle.config_file.specs.Header.{Section}
use Rattle.config_file.specs.Key.{Key, HasKey, IsCut, IsKey, RefusesKey, key_error_text}
use Rattle.config_file.specs.Listing.{IsListed}
use Rattle.config_file.specs.Shown.{quoted}
use Rattle.config_file.specs.Value.{Ending, SpellsValue}
use Rattle.config_file.specs.Views.{entry_of}
use Rattle.config_file.specs.Walk.{Content, Text, Missing, Unreadable, Stop, Line, NoValue, Unknown, NotRead}
use Rattle.config_file.specs.Walk.{TooDeep, ForbiddenUrl, Item, Found, Stops, WalksText}
use Rattle.config_file.specs.declared.errors.FileError.{FileError}
use Rattle.config_file.specs.declared.errors.Stop.{Stop as Told}
use Rattle.config_file.specs.declared.errors.Why.{Why}
use Rattle.config_file.specs.declared.errors.Why.TheVariants as because
use Rattle.config_file.specs.declared.files.Content.{Content as Given}
use Rattle.config_file.specs.declared.files.Content.TheVariants as given
use Rattle.config_file.specs.declared.scope.Scope.{Scope}
use Rattle.config_file.specs.declared.settings.Setting.{Setting}
use Rattle.config_file.specs.declared.settings.RefusedSetting.{RefusedSetting}
use Rattle.config_file.specs.declared.settings.AddError.{AddError}
use Rattle.config_file.specs.declared.settings.AddError.TheVariants as error
use Rattle.config_file.specs.declared.settings.GetError.{GetError}
use Rattle.config_file.specs.declared.settings.GetError.TheVariants as get
use Rattle.config_file.specs.declared.settings.Next.{Next}
use Rattle.config_file.specs.declared.settings.Next.TheVariants as next
use Rattle.config_file.specs.declared.walk.Include.{Include}
use Rattle.config_file.specs.declared.walk.Include.TheVariants.{NotFollowed, MissingValue, UnknownDirectory}
use Rattle.config_file.specs.declared.walk.Include.TheVariants.{Named}
use Rattle.config_file.specs.declared.walk.Include.TheVariants as what
use Rattle.config_file.specs.declared.walk.Known.{Known}
use Rattle.config_file.specs.declared.walk.FilePlace.{FilePlace}

-- the section of a key as it is written, with its dots, and U+FFFD for bytes that are not UTF-8
abbrev pub written_section : Option Section → List ℕ
written_section None = []
written_section (Some (name, None)) = name_shown name ++ codes "."
written_section (Some (name, Some raw)) = name_shown name ++ codes "." ++ name_shown raw ++ codes "."

-- where a setting is: `FILE:LINE`
abbrev pub setting_place : Setting → List ℕ
setting_place setting = name_shown setting.file.now ++ codes ":" ++ decimal (entry_of setting.entry).line

-- how the place of a refusal is shown: `FILE:LINE: KEY: `, with the key as it is written
abbrev pub place_shown : Setting → List ℕ
place_shown setting = let entry = entry_of setting.entry in
    setting_place setting ++ codes ": " ++ written_section entry.section ++ name_shown entry.key ++ codes ": "

-- `: ` and the text of a value in quotes, or nothing for a key alone
abbrev pub text_shown : Option (List ℕ) → List ℕ
text_shown None = []
text_shown (Some text) = codes ": " ++ quoted text

-- where Git stops, or `no memory`
abbrev pub add_error_shown : AddError → List ℕ
add_error_shown (error.Stops stop) = stop_shown stop
add_error_shown (error.Memory _) = codes "no memory"

-- the text of the value, if there is one
abbrev pub value_text : Setting → Option (List ℕ)
value_text setting = option_map cow_slice_items setting.value

-- the text for a reader: that of the value, or `true` for a key alone
abbrev pub text_of : Setting → List ℕ
text_of setting = option_map_or (λ text. text) (value_text setting) (codes "true")

-- `FILE:LINE: KEY: reason`, and the text if there is one
abbrev pub refused_shown : Setting → List ℕ → List ℕ
refused_shown setting reason = place_shown setting ++ reason ++ text_shown (value_text setting)

-- why a key has no value: the reason that it is no key, or a refusal of its setting
abbrev pub get_error_shown : GetError → List ℕ
get_error_shown (get.Key error) = key_error_text error
get_error_shown (get.NoValue setting) = place_shown setting.now ++ codes "no value"
get_error_shown (get.Refused refused) = refused_shown refused.setting.now (reasons.fault_text refused.fault)
get_error_shown (get.NoWord setting) = refused_shown setting.now (codes "not one of the allowed words")

-- the value is the text that these bytes spell, and a key alone has no value
abbrev pub IsValueOf : Option (List ℕ) → Option (List ℕ) → Type 0
IsValueOf None value = value ≡ None
IsValueOf (Some raw) value =
    (text : List ℕ) (ending : Ending) → SpellsValue raw text ending → value ≡ Some text

-- the setting of an entry of the file of this name
pub record IsSettingOf (found : List ℕ × Entry) (setting : Setting) : Type 0 where
  pub file : setting.file.now ≡ found.0
  pub entry : entry_of setting.entry ≡ found.1
  pub value : IsValueOf found.1.value (value_text setting)

-- the new settings are the old ones, followed by one for each of these entries
abbrev pub AddsEach : List (List ℕ × Entry) → List Setting → List Setting → Type 0
AddsEach found old new = (added : List Setting) × (new ≡ old ++ added) × AllZip IsSettingOf found added

-- the new settings are the old ones, followed by some that have this scope
abbrev pub AddsInScope : Scope → List Setting → List Setting → Type 0
AddsInScope scope old new = (added : List Setting) × (new ≡ old ++ added)
    × All (λ setting. setting.scope ≡ scope) added

-- the entries of the text begin with these
abbrev pub HasFirstEntries : List ℕ → List Entry → Type 0
HasFirstEntries text entries =
    (rest : List Entry) × (error : Option FileError) × IsFile text (entries ++ rest) error

-- why Git stops there
abbrev pub why_of : Stop → Why
why_of (Line at) = at.why
why_of (NoValue entry) = because.NoValue
why_of (Unknown entry) = because.UnknownDirectory
why_of (NotRead entry) = because.Unreadable
why_of (TooDeep entry) = because.TooDeep
why_of (ForbiddenUrl entry) = because.ForbiddenUrl

-- the line on which it stops
abbrev pub line_of : Stop → ℕ
line_of (Line at) = at.line
line_of (NoValue entry) = entry.line
line_of (Unknown entry) = entry.line
line_of (NotRead entry) = entry.line
line_of (TooDeep entry) = entry.line
line_of (ForbiddenUrl entry) = entry.line

-- words that say why: those of the reason, but the system says why a file cannot be read
abbrev pub IsSaid : Why → List ℕ → Type 0
IsSaid why words = (why ≢ because.Unreadable) → words ≡ why_text why

-- where it stops in the file of this name is told: by the name, the line and the reason
pub record TellsStop (name : List ℕ) (stop : Stop) (told : Told (Bor (List ℕ))) : Type 0 where
  pub file : told.file.now ≡ name
  pub line : told.line ≡ line_of stop
  pub why : told.why ≡ why_of stop
  pub words : IsSaid told.why told.words.now

-- what adding the entries of a file gives: all of them, those before the first line that Git cannot read, or
-- those before memory is refused
abbrev pub AddsFile : List ℕ → List ℕ → List Setting → List Setting → Result (Unit {0}) AddError → Type 0
AddsFile file text old new (Ok _) =
    (entries : List Entry) × IsFile text entries None × AddsEach (map (λ entry. (file, entry)) entries) old new
AddsFile file text old new (Err (error.Stops stop)) = (at : FileError) × TellsStop file (Line at) stop
    × ((entries : List Entry) × IsFile text entries (Some at) × AddsEach (map (λ entry. (file, entry)) entries) old new)
AddsFile file text old new (Err (error.Memory _)) =
    (entries : List Entry) × HasFirstEntries text entries × AddsEach (map (λ entry. (file, entry)) entries) old new

-- what is given for the file of this name is among what it may hold
abbrev pub HoldsContent : (List ℕ → Content → Type 0) → List ℕ → Given → Type 0
HoldsContent contents name (given.Text place text) =
    (place.name.now ≡ name) × contents name (Text place.real_dir.now text.now)
HoldsContent contents name given.Missing = contents name Missing
HoldsContent contents name (given.Unreadable why) = contents name Unreadable

-- an entry that includes this is passed: it includes no file, or there is no such file
abbrev pub IsPassed : (List ℕ → Content → Type 0) → Include → Type 0
IsPassed contents NotFollowed = ⊤
IsPassed contents (Named name) = contents name.items Missing
IsPassed contents _ = ⊥

-- an entry that includes this is followed into the file at this place, which has this text
abbrev pub IsEntered : (List ℕ → Content → Type 0) → FilePlace → List ℕ → Include → Type 0
IsEntered contents place text (Named name) =
    (place.name.now ≡ name.items) × contents place.name.now (Text place.real_dir.now text)
IsEntered contents place text _ = ⊥

-- Git stops at an entry that includes this, for this reason
abbrev pub IsStop : (List ℕ → Content → Type 0) → Include → Why → Type 0
IsStop contents MissingValue why = why ≡ because.NoValue
IsStop contents UnknownDirectory why = why ≡ because.UnknownDirectory
IsStop contents what.ForbiddenUrl why = why ≡ because.ForbiddenUrl
IsStop contents (Named name) why = (why ≡ because.Unreadable) × contents name.items Unreadable
IsStop contents _ _ = ⊥

-- how a walk goes on after an entry that includes this
abbrev pub IsNext : (List ℕ → Content → Type 0) → Include → Next → Type 0
IsNext contents include next.Behind = IsPassed contents include
IsNext contents include (next.In place text) = IsEntered contents place text.now include
IsNext contents include (next.Stops why words) = IsStop contents include why × IsSaid why words.now

-- an entry as an item of a walk
abbrev pub found_item : List ℕ × Entry → List ℕ × Item
found_item found = (found.0, Found found.1)

-- what adding the entries of a walk gives: all of them, those up to where Git stops, or those before memory
-- is refused
abbrev pub AddsWalk : (List ℕ → Content → Type 0) → Known → FilePlace → List ℕ → List Setting → List Setting
    → Result (Unit {0}) AddError → Type 0
AddsWalk contents known place text old new (Ok _) = (found : List (List ℕ × Entry)) × AddsEach found old new
    × WalksText contents known place text (map found_item found) true
AddsWalk contents known place text old new (Err (error.Memory _)) = (found : List (List ℕ × Entry))
    × AddsEach found old new × WalksText contents known place text (map found_item found) false
AddsWalk contents known place text old new (Err (error.Stops told)) =
    (found : List (List ℕ × Entry)) × (file : List ℕ) × (stop : Stop) × AddsEach found old new × TellsStop file stop told
    × WalksText contents known place text (map found_item found ++ (file, Stops stop) ∷ []) false

-- two settings of the same entry of the same file, with the same text
abbrev pub IsSameSetting : Setting → Setting → Type 0
IsSameSetting a b =
    (a.file.now ≡ b.file.now) × (entry_of a.entry ≡ entry_of b.entry) × (value_text a ≡ value_text b)

-- the settings begin with settings that are the same as these
abbrev pub HasSameFront : List Setting → List Setting → Type 0
HasSameFront front settings = (same : List Setting) × (rest : List Setting) × (settings ≡ same ++ rest)
    × AllZip IsSameSetting front same

-- memory is not refused
abbrev pub HasMemory : Result (Unit {0}) AddError → Type 0
HasMemory (Err (error.Memory _)) = ⊥
HasMemory _ = ⊤

-- both additions are whole, or both errors tell the same stop in the same file
abbrev pub IsSameEnd : Result (Unit {0}) AddError → Result (Unit {0}) AddError → Type 0
IsSameEnd (Ok _) (Ok _) = ⊤
IsSameEnd (Err (error.Stops a)) (Err (error.Stops b)) =
    (file : List ℕ) × (stop : Stop) × TellsStop file stop a × TellsStop file stop b
IsSameEnd _ _ = ⊥

-- the refusal is that of the setting, with this fault
abbrev pub IsRefusalOf : {F : Type 0} → Setting → F → RefusedSetting F → Type 0
IsRefusalOf setting fault refused = (refused.setting.now ≡ setting) × (refused.fault ≡ fault)

-- the value that the grammar gives the text of the setting, or a refusal of it with a fault of the text
abbrev pub ReadsSetting : {V : Type 0} → (List ℕ → V → Type 0) → (List ℕ → Fault → Type 0) → Setting
    → Result V (RefusedSetting Fault) → Type 0
ReadsSetting grammar refusal setting result =
    ReadsOr grammar (λ r. (r.setting.now ≡ setting) × refusal (text_of setting) r.fault) (text_of setting) result

-- Git lists each of the settings under a key, as it does each entry of a file
abbrev pub AreListed : List Setting → Type 0
AreListed settings = All (λ setting. (text : List ℕ)
    × IsListed (entry_of setting.entry).section (entry_of setting.entry).key text) settings

-- no setting has the key
abbrev pub LacksKey : List Setting → Key → Type 0
LacksKey settings key = All (λ setting. ¬ (HasKey (entry_of setting.entry) key)) settings

-- this is the last setting that has the key
abbrev pub IsLast : List Setting → Key → Setting → Type 0
IsLast settings key setting = (i : ℕ) × (slice_get settings i ≡ Some setting)
    × HasKey (entry_of setting.entry) key
    × AllWithin (λ later. ¬ (HasKey (entry_of later.entry) key)) settings (i + 1) (length settings)

-- these are all settings of which this is true, in order
pub data Picks {X : Type 0} (P : X → Type 0) : List X → List X → Type 0 where
  none : Picks P [] []
  takes : {x : X} {all picked : List X} → P x → Picks P all picked → Picks P (x ∷ all) (x ∷ picked)
  leaves : {x : X} {all picked : List X} → ¬ (P x) → Picks P all picked → Picks P (x ∷ all) picked

-- these are all settings that have the key, in order
abbrev pub AllWithKey : Key → List Setting → List Setting → Type 0
AllWithKey key = Picks (λ setting. HasKey (entry_of setting.entry) key)

-- Git lists the setting under a key with this section, ignoring ASCII case, and with this subsection
pub record HasSubsection (section : List ℕ) (setting : Setting) (subsection : List ℕ) : Type 0 where
  pub text : List ℕ
  pub key : Key
  pub is_listed : IsListed (entry_of setting.entry).section (entry_of setting.entry).key text
  pub is_cut : IsCut text key
  pub same_section : map to_ascii_lowercase key.section ≡ map to_ascii_lowercase section
  pub has_subsection : key.subsection ≡ Some subsection

-- the setting has no subsection in this section
abbrev pub LacksSubsection : List ℕ → Setting → Type 0
LacksSubsection section setting = (subsection : List ℕ) → ¬ (HasSubsection section setting subsection)

-- These are the subsections of a section, each once, in the order in which they come first: the one of the
-- first setting, and then those of the later settings without it.
pub data AreSubsections (section : List ℕ) : List Setting → List (List ℕ) → Type 0 where
  no_settings : AreSubsections section [] []
  lacks : {setting : Setting} {settings : List Setting} {found : List (List ℕ)}
      → LacksSubsection section setting → AreSubsections section settings found
      → AreSubsections section (setting ∷ settings) found
  has : {setting : Setting} {settings : List Setting} {subsection : List ℕ} {found others : List (List ℕ)}
      → HasSubsection section setting subsection → AreSubsections section settings found
      → Picks (λ other. other ≢ subsection) found others
      → AreSubsections section (setting ∷ settings) (subsection ∷ others)

-- the text is a key that no setting has
abbrev pub IsUnset : List Setting → List ℕ → Type 0
IsUnset settings text = (key : Key) × IsKey text key × LacksKey settings key

-- the text is a key, and this is the last setting that has it
abbrev pub IsDecided : List Setting → List ℕ → Setting → Type 0
IsDecided settings text setting = (key : Key) × IsKey text key × IsLast settings key setting

-- the value of the last setting that has this key, or its refusal; no value if none has it
abbrev pub Gets : {V : Type 0} → (List ℕ → V → Type 0) → (List ℕ → Fault → Type 0) → List Setting → List ℕ
    → Result (Option V) GetError → Type 0
Gets grammar refusal settings text (Ok None) = IsUnset settings text
Gets grammar refusal settings text (Ok (Some v)) =
    (setting : Setting) × IsDecided settings text setting × grammar (text_of setting) v
Gets grammar refusal settings text (Err (get.NoValue setting)) = IsDecided settings text setting.now
    × (value_text setting.now ≡ None) × IsRefused grammar (text_of setting.now)
Gets grammar refusal settings text (Err (get.Refused refused)) = IsDecided settings text refused.setting.now
    × (value_text refused.setting.now ≢ None) × refusal (text_of refused.setting.now) refused.fault
    × IsRefused grammar (text_of refused.setting.now)
Gets grammar refusal settings text (Err (get.Key error)) = RefusesKey text error
Gets grammar refusal settings text (Err (get.NoWord _)) = ⊥

-- the text of a setting, or the refusal of a key alone
abbrev pub GivesText : Setting → Result (Bor (List ℕ)) GetError → Type 0
GivesText setting (Ok text) = value_text setting ≡ Some text.now
GivesText setting (Err (get.NoValue refused)) = (refused.now ≡ setting) × (value_text setting ≡ None)
GivesText setting (Err _) = ⊥

-- the text of a setting if it is one of these words, or its refusal
abbrev pub GivesWord : List (List ℕ) → Setting → Result (Bor (List ℕ)) GetError → Type 0
GivesWord words setting (Ok word) = (value_text setting ≡ Some word.now) × Contains words word.now
GivesWord words setting (Err (get.NoWord refused)) = (refused.now ≡ setting)
    × ((text : List ℕ) × (value_text setting ≡ Some text) × ¬ (Contains words text))
GivesWord words setting (Err (get.NoValue refused)) = (refused.now ≡ setting) × (value_text setting ≡ None)
GivesWord words setting (Err _) = ⊥

-- what the last setting that has this key gives, or nothing if none has it
abbrev pub GetsBy : {A : Type 0} → (Setting → Result A GetError → Type 0) → List Setting → List ℕ
    → Result (Option A) GetError → Type 0
GetsBy gives settings text (Ok None) = IsUnset settings text
GetsBy gives settings text (Err (get.Key error)) = RefusesKey text error
GetsBy gives settings text (Ok (Some a)) = (setting : Setting) × IsDecided settings text setting × gives setting (Ok a)
GetsBy gives settings text (Err error) =
    (setting : Setting) × IsDecided settings text setting × gives setting (Err error)

-- the text of the last setting that has this key, or its refusal
abbrev pub GetsText : List Setting → List ℕ → Result (Option (Bor (List ℕ))) GetError → Type 0
GetsText = GetsBy GivesText

-- the same, if the text is one of these words
abbrev pub GetsWord : List (List ℕ) → List Setting → List ℕ → Result (Option (Bor (List ℕ))) GetError → Type 0
GetsWord words = GetsBy (GivesWord words)

-- a text has at most one value, and is refused with at most one fault
pub record HasOneReading {V : Type 0} (grammar : List ℕ → V → Type 0) (refusal : List ℕ → Fault → Type 0)
    : Type 0 where
  pub one_value : (text : List ℕ) (v w : V) → grammar text v → grammar text w → v ≡ w
  pub one_fault : (text : List ℕ) (e f : Fault) → IsRefused grammar text → refusal text e → refusal text f
      → e ≡ f

-- two results with the same value, or with the same refusal of the same setting or of the key
abbrev pub IsSameAnswer : {V : Type 0} → Result (Option V) GetError → Result (Option V) GetError → Type 0
IsSameAnswer (Ok a) (Ok b) = a ≡ b
IsSameAnswer (Err (get.Key a)) (Err (get.Key b)) = a ≡ b
IsSameAnswer (Err (get.NoValue a)) (Err (get.NoValue b)) = a.now ≡ b.now
IsSameAnswer (Err (get.Refused a)) (Err (get.Refused b)) =
    (a.setting.now ≡ b.setting.now) × (a.fault ≡ b.fault)
IsSameAnswer _ _ = ⊥

-- the bytes of a path, which are empty for a key alone
abbrev pub path_bytes : Setting → List ℕ
path_bytes setting = option_map_or (λ text. text) (value_text setting) []

-- what the path table gives for the value of a setting, after its mark is cut off
abbrev pub IsPathOfSetting : paths.Known → Setting → Result (Bool × Parts) (RefusedSetting path_errors.Error)
    → Type 0
IsPathOfSetting known setting (Ok (is_optional, parts)) =
    (path : List ℕ) × Marked (path_bytes setting) is_optional path × PathTable known path (parts_result (Ok parts))
IsPathOfSetting known setting (Err refused) =
    (is_optional : Bool) × (path : List ℕ) × Marked (path_bytes setting) is_optional path
    × PathTable known path (parts_result (Err refused.fault)) × (refused.setting.now ≡ setting)
