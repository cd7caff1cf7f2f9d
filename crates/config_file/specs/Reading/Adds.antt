-- What the steps of a walk add to settings.
use denote.Ref.{Bor}
use Rattle.std.specs.Prelude.{◌≡◌, ◌≤◌, ◌⊎◌, Contains, Option, None, Some, ℕ, Bool, true, false, List, []}
use Rattle.std.specs.Prelude.{◌∷◌, ◌++◌, length, map, Result, Ok, Err}
use Rattle.std.specs.declared.alloc.AllocError.{AllocError}
use Rattle.config_file.specs.File.{Entry}
use Rattle.config_file.specs.Walk.{Content, Item, Stops, Stop}
use Rattle.config_file.specs.Key.{RefusesKey}
use Rattle.config_file.specs.Settings.{AddsEach, IsUnset, IsDecided, TellsStop, found_item}
use Rattle.config_file.specs.Reading.Walks.{Said, Passes}
use Rattle.config_file.specs.declared.key.KeyError.{KeyError}
use Rattle.config_file.specs.declared.settings.AddError.{AddError}
use Rattle.config_file.specs.declared.settings.AddError.TheVariants as error
use Rattle.config_file.specs.declared.settings.Setting.{Setting}
use Rattle.config_file.specs.declared.walk.Frame.{Frame}
use Rattle.config_file.specs.declared.walk.Known.{Known}

-- an entry is added, or nothing if memory is refused
abbrev pub AddsEntry : List ℕ × Entry → List Setting → List Setting → Result (Unit {0}) AllocError → Type 0
AddsEntry found old new (Ok _) = AddsEach (found ∷ []) old new
AddsEntry found old new (Err _) = new ≡ old

-- the text, if there is one, is among these, or it is put behind them
abbrev pub AddsOnce : Option (List ℕ) → List (List ℕ) → List (List ℕ) → Type 0
AddsOnce None old new = new ≡ old
AddsOnce (Some text) old new =
    (Contains old text × (new ≡ old)) ⊎ (¬ (Contains old text) × (new ≡ old ++ text ∷ []))

-- what the text of a key is: a key that no setting has, a key that this setting decides, or no key
abbrev pub Decides : List Setting → List ℕ → Result (Option (Bor Setting)) KeyError → Type 0
Decides settings text (Ok None) = IsUnset settings text
Decides settings text (Ok (Some setting)) = IsDecided settings text setting.now
Decides settings text (Err error) = RefusesKey text error

-- what the first relation says of the file of a name, the second says too
abbrev pub Within : (List ℕ → Content → Type 0) → (List ℕ → Content → Type 0) → Type 0
Within some all = (name : List ℕ) (content : Content) → some name content → all name content

-- with these contents, the walk of the old frames comes to these items, and then goes on as that of the new
-- ones
abbrev pub Comes : (List ℕ → Content → Type 0) → Known → List Frame → List (List ℕ × Item) → List Frame
    → Type 0
Comes contents known old items new = (answers : List (List ℕ × Content)) × Within (Said answers) contents
    × ((more : List (List ℕ × Content)) → Within (Said answers) (Said more) → Passes more known old items new)

-- what the next step of a walk adds: an entry; nothing at the end, or if memory is refused; or, where Git
-- stops, an entry or none
abbrev pub AddsNext : (List ℕ → Content → Type 0) → Known → List Frame → List Frame → List Setting
    → List Setting
    → Result Bool AddError → Type 0
AddsNext contents known from to old new (Ok true) =
    (found : List ℕ × Entry) × AddsEach (found ∷ []) old new × Comes contents known from (found_item found ∷ []) to
AddsNext contents known from to old new (Ok false) = (new ≡ old) × (to ≡ []) × Comes contents known from [] to
AddsNext contents known from to old new (Err (error.Memory _)) = new ≡ old
AddsNext contents known from to old new (Err (error.Stops told)) =
    (found : List (List ℕ × Entry)) × (file : List ℕ) × (stop : Stop) × AddsEach found old new × TellsStop file stop told
    × ((frames : List Frame) × (length frames ≤ 11)
    × Comes contents known from (map found_item found ++ (file, Stops stop) ∷ []) frames)
