-- The headline of configuration files: which value a setting has in several files, each with its includes.
--
-- Look for: a value, no value and a refusal need whole walks of all files that the caller gives: only
-- `StopsWith` has a cut one, which ends at a stop. `Known` has the `Includes`.
use Rattle.std.specs.Prelude.{◌≡◌, ◌++◌, ◌∷◌, [], ℕ, true, false, List, Option, None, Some, Result, Ok, Err, ⊤, codes, map}
use Rattle.std.specs.List.{All}
use Rattle.config_text.specs.Value.{IsRefused}
use Rattle.config_text.specs.declared.errors.Fault.{Fault}
use Rattle.config_file.specs.File.{Entry}
use Rattle.config_file.specs.Key.{Key, HasKey, IsKey, RefusesKey}
use Rattle.config_file.specs.Settings.{IsSameEnd, TellsStop, found_item}
use Rattle.config_file.specs.Value.{Ending, SpellsValue}
use Rattle.config_file.specs.Walk.{Content, Stop, WalksText}
use Rattle.config_file.specs.Walk as walk
use Rattle.config_file.specs.declared.settings.AddError.{AddError}
use Rattle.config_file.specs.declared.settings.AddError.TheVariants.{Memory, Stops}
use Rattle.config_file.specs.declared.walk.Known.{Known}
use Rattle.uses.specs.declared.setting_headline.FirstFile.{FirstFile}
use Rattle.uses.specs.declared.setting_headline.NoValue.{NoValue}
use Rattle.uses.specs.declared.setting_headline.NoValue.TheVariants as no_value

-- The walks of the first files, each with its includes, come to these entries in this order, up to the end of
-- the last file, or to this place in the file of this name, where Git stops. An entry has the name of its file.
pub data WalksAll (contents : List ℕ → Content → Type 0) (known : Known)
    : List FirstFile → List (List ℕ × Entry) → Option (List ℕ × Stop) → Type 0 where
  ends : WalksAll contents known [] [] None
  whole : {first : FirstFile} {others : List FirstFile} {stop : Option (List ℕ × Stop)}
      (found more : List (List ℕ × Entry))
      → WalksText contents known first.place first.text.now (map found_item found) true
      → WalksAll contents known others more stop
      → WalksAll contents known (first ∷ others) (found ++ more) stop
  stops : {first : FirstFile} {others : List FirstFile} {found : List (List ℕ × Entry)} {file : List ℕ}
      {stop : Stop}
      → WalksText contents known first.place first.text.now
      (map found_item found ++ (file, walk.Stops stop) ∷ []) false
      → WalksAll contents known (first ∷ others) found (Some (file, stop))

-- none of these entries has the key
abbrev pub NoneHas : Key → List (List ℕ × Entry) → Type 0
NoneHas key found = All (λ one. ¬ (HasKey one.1 key)) found

-- this is the last of these entries that has the key
pub data IsLast (key : Key) : List (List ℕ × Entry) → List ℕ × Entry → Type 0 where
  here : {last : List ℕ × Entry} {after : List (List ℕ × Entry)}
      → HasKey last.1 key → NoneHas key after → IsLast key (last ∷ after) last
  later : {first last : List ℕ × Entry} {found : List (List ℕ × Entry)}
      → IsLast key found last → IsLast key (first ∷ found) last

-- the text of an entry: the one that the bytes of its value spell, or `true` for a key alone
pub data HasText (entry : Entry) : List ℕ → Type 0 where
  alone : entry.value ≡ None → HasText entry (codes "true")
  spelled : {raw text : List ℕ} {ending : Ending}
      → entry.value ≡ Some raw → SpellsValue raw text ending → HasText entry text

-- all first files are read, and of the entries with the key, the last is this one, with this text
pub record IsDecided (contents : List ℕ → Content → Type 0) (known : Known) (first : List FirstFile) (key : Key)
    (last : List ℕ × Entry) (text : List ℕ) : Type 0 where
  pub found : List (List ℕ × Entry)
  pub walks : WalksAll contents known first found None
  pub is_last : IsLast key found last
  pub has_text : HasText last.1 text

-- Git stops in the file of this name, and it is told where and why; nothing is said of refused memory
abbrev pub StopsWith : (List ℕ → Content → Type 0) → Known → List FirstFile → AddError → Type 0
StopsWith contents known first (Memory _) = ⊤
StopsWith contents known first (Stops told) = (found : List (List ℕ × Entry)) × (file : List ℕ) × (stop : Stop)
    × WalksAll contents known first found (Some (file, stop)) × TellsStop file stop told

-- what a key gives: no value if no entry has it, or else the value that the grammar gives the text of the last
-- entry, or a refusal of that text; or a stop of Git
abbrev pub Gives : {V : Type 0} → (List ℕ → Content → Type 0) → Known → List FirstFile → Key
    → (List ℕ → V → Type 0) → (List ℕ → Fault → Type 0) → Result (Option V) NoValue → Type 0
Gives contents known first key grammar refusal (Ok None) =
    (found : List (List ℕ × Entry)) × WalksAll contents known first found None × NoneHas key found
Gives contents known first key grammar refusal (Ok (Some v)) = (last : List ℕ × Entry) × (text : List ℕ)
    × IsDecided contents known first key last text × grammar text v
Gives contents known first key grammar refusal (Err (no_value.Refused file line text fault)) =
    (last : List ℕ × Entry) × IsDecided contents known first key last text.items × (file.now ≡ last.0)
    × (line ≡ last.1.line) × refusal text.items fault × IsRefused grammar text.items
Gives contents known first key grammar refusal (Err (no_value.Stops error)) = StopsWith contents known first error
Gives contents known first key grammar refusal (Err (no_value.Key _)) = ⊥

-- Git refuses the text as a key, or it is a key, and this is what the key gives
abbrev pub SettingHeadline : {V : Type 0} → (List ℕ → Content → Type 0) → Known → List FirstFile → List ℕ
    → (List ℕ → V → Type 0) → (List ℕ → Fault → Type 0) → Result (Option V) NoValue → Type 0
SettingHeadline contents known first text grammar refusal (Err (no_value.Key error)) = RefusesKey text error
SettingHeadline contents known first text grammar refusal result =
    (key : Key) × IsKey text key × Gives contents known first key grammar refusal result

-- memory is not refused
abbrev pub HasMemory : {V : Type 0} → Result (Option V) NoValue → Type 0
HasMemory (Err (no_value.Stops (Memory _))) = ⊥
HasMemory result = ⊤

-- two results with the same value, or with none; the same refusal of the key, or of the text of one entry; or two
-- that tell the same stop in the same file
abbrev pub IsSameFound : {V : Type 0} → Result (Option V) NoValue → Result (Option V) NoValue → Type 0
IsSameFound (Ok a) (Ok b) = a ≡ b
IsSameFound (Err (no_value.Key a)) (Err (no_value.Key b)) = a ≡ b
IsSameFound (Err (no_value.Refused file line text fault)) (Err (no_value.Refused f l t e)) =
    (file.now ≡ f.now) × (line ≡ l) × (text.items ≡ t.items) × (fault ≡ e)
IsSameFound (Err (no_value.Stops a)) (Err (no_value.Stops b)) = IsSameEnd (Err a) (Err b)
IsSameFound _ _ = ⊥
