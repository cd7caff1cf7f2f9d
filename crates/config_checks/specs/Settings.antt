-- Settings: the entries of a file, each with its key as Git lists it and the text of its value.
use Rattle.std.specs.Prelude.{◌≡◌, ℕ, ◌-◌, List, Option, None, Some, option_map}
use Rattle.config_file.specs.File.{Entry}
use Rattle.config_file.specs.Listing.{IsListed}
use Rattle.config_file.specs.Settings.{IsValueOf}
use Rattle.config_file.specs.Value.{line_feeds}
use Rattle.config_checks.specs.declared.setting.Setting.{Setting}

-- the value of a setting, if it has one
abbrev pub value_of : Setting → Option (List ℕ)
value_of setting = option_map (λ value. value.items) setting.value

-- how many line feeds a value has
abbrev pub feeds_of : Option (List ℕ) → ℕ
feeds_of None = 0
feeds_of (Some raw) = line_feeds raw

-- the line of the key, since an entry has the line on which its value ends
abbrev pub first_line : Entry → ℕ
first_line entry = entry.line - feeds_of entry.value

-- the setting of an entry of the file with this name
pub record IsSettingOf (name : List ℕ) (entry : Entry) (setting : Setting) : Type 0 where
  pub file : setting.file.now ≡ name
  pub line : setting.line ≡ first_line entry
  pub last : setting.last ≡ entry.line
  pub key : (listed : List ℕ) → IsListed entry.section entry.key listed → setting.key.items ≡ listed
  pub value : IsValueOf entry.value (value_of setting)
