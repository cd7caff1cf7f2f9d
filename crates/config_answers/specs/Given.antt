-- What is handed on of the entries that Git reads.
--
-- Look for: each entry is asked about once, and of one that is not asked for nothing is received.
use Rattle.std.specs.Prelude.{◌≡◌, ◌⊎◌, ℕ, List, Option, Some, None}
use Rattle.config_file.specs.File.{Entry}
use Rattle.config_file.specs.Listing.{IsListed}
use Rattle.config_file.specs.Settings.{IsSettingOf}
use Rattle.config_file.specs.declared.scope.Scope.{Scope}
use Rattle.config_file.specs.declared.settings.Setting.{Setting}
use Rattle.config_search.specs.Reads.{ReadEntry}
use Rattle.config_answers.specs.Choices.{Choice, HasAskedValue, Takes, choice_of}
use Rattle.config_answers.specs.declared.read.Asked.{Asked}

-- a setting is received, or nothing
abbrev pub Receives : {R : Type 0} → (R → Setting → R → Type 0) → R → Option Setting → R → Type 0
Receives receives old (Some setting) new = receives old setting new
Receives receives old None new = new ≡ old

-- of this entry, which Git lists, the setting is received if it is asked for
abbrev pub Gives : {R : Type 0} → (R → Setting → R → Type 0) → Choice → Scope → List ℕ × Entry → R → R → Type 0
Gives receives choice scope found old new = (listed : List ℕ) → IsListed found.1.section found.1.key listed
    → (setting : Option Setting) × Takes choice scope found listed setting × Receives receives old setting new

-- of this entry, whose key is asked for, the setting is received if its value is asked for
abbrev pub GivesValue : {R : Type 0} → (R → Setting → R → Type 0) → Choice → Scope → List ℕ × Entry → R → R → Type 0
GivesValue receives choice scope found old new = (setting : Setting) × IsSettingOf found setting
    × (setting.scope ≡ scope) × ((HasAskedValue choice setting × receives old setting new)
    ⊎ ((¬ (HasAskedValue choice setting)) × (new ≡ old)))

-- what asks for settings gets an entry, and asks for the same after it
abbrev pub Passes : {R : Type 0} → (R → Setting → R → Type 0) → Asked R → ReadEntry → Asked R → Type 0
Passes receives old it new = (choice_of new.choice ≡ choice_of old.choice)
    × Gives receives (choice_of old.choice) it.scope (it.file, it.entry) old.receiver new.receiver
