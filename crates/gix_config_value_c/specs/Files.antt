-- Settings in C: the key and the value of an entry, each followed by NUL.
use Rattle.std.specs.Prelude.{◌≡◌, ℕ, List, [], ◌∷◌, ◌++◌, Option, None, Some, option_map}
use Rattle.std.specs.Option.{option_map_or}
use Rattle.std.specs.Cow.{cow_slice_items}
use Rattle.config_file.specs.File.{Entry}
use Rattle.config_file.specs.Listing.{IsListed}
use Rattle.config_file.specs.Value.{Ending, SpellsValue}
use Rattle.gix_config_value_c.specs.declared.files.Setting.{Setting}

-- the text of the value, if there is one
abbrev pub value_of : Setting → Option (List ℕ)
value_of setting = option_map cow_slice_items setting.value

-- the value is the text that these bytes spell, and a key alone has no value
abbrev pub IsValueOf : Option (List ℕ) → Option (List ℕ) → Type 0
IsValueOf None value = value ≡ None
IsValueOf (Some raw) value =
    (text : List ℕ) (ending : Ending) → SpellsValue raw text ending → value ≡ Some text

-- the setting of an entry: its key as Git lists it, the text of its value, and its line
pub record IsSettingOf (entry : Entry) (setting : Setting) : Type 0 where
  pub key : (listed : List ℕ) → IsListed entry.section entry.key listed → setting.key.items ≡ listed
  pub value : IsValueOf entry.value (value_of setting)
  pub line : setting.line ≡ entry.line

-- a text followed by NUL
abbrev pub ended : List ℕ → List ℕ
ended text = text ++ 0 ∷ []

-- the bytes of a setting: the key as Git lists it, and the value if there is one, each followed by NUL
abbrev pub setting_bytes : Setting → List ℕ
setting_bytes s = ended s.key.items ++ option_map_or ended (value_of s) []
