-- Which settings are asked for.
--
-- Look for: without a pattern each value fits; a key alone has the empty value; a setting that is left out
-- lacks the key, or the value.
use Rattle.std.specs.Prelude.{◌≡◌, ◌⊎◌, ℕ, Bool, true, not, is_some, List, Option, None, Some, ⊤, codes, map}
use Rattle.std.specs.Prelude.{option_copied, option_map, IfSome}
use Rattle.std.specs.Char.{to_ascii_lowercase}
use Rattle.regex.specs.Bytes.{matcher_pattern}
use Rattle.regex.specs.Patterns.{Re, find}
use Rattle.config_file.specs.File.{Entry}
use Rattle.config_file.specs.Key.{Key, HasKey, IsCut}
use Rattle.config_file.specs.KeyView.{key_of}
use Rattle.config_file.specs.Settings.{IsSettingOf, path_bytes}
use Rattle.config_file.specs.declared.scope.Scope.{Scope}
use Rattle.config_file.specs.declared.settings.Setting.{Setting}
use Rattle.config_answers.specs.declared.choice.Choice as code
use Rattle.config_answers.specs.declared.choice.Keys as code_keys
use Rattle.config_answers.specs.declared.choice.Keys.TheVariants as code_key

-- which keys are asked for: each; one; those in which a pattern is found; the one that is listed as a text; that one
-- with `diff.color` and `color.ui`; or those of a section, with a name if there is one
pub data Keys : Type 0 where
  all : Keys
  one : Key → Keys
  found : Re → Keys
  listed_as : List ℕ → Keys
  colored : List ℕ → Keys
  within : (section : List ℕ) → (name : Option (List ℕ)) → Keys

-- what is asked for: keys; and a value, or a pattern of values that is found or not found
pub record Choice : Type 0 where
  pub keys : Keys
  pub fixed : Option (List ℕ)
  pub values : Option Re
  pub is_negated : Bool

abbrev pub keys_of : code_keys.Keys → Keys
keys_of code_key.All = all
keys_of (code_key.One key) = one (key_of key)
keys_of (code_key.Found matcher) = found (matcher_pattern matcher.value)
keys_of (code_key.Listed text) = listed_as text.now
keys_of (code_key.Colored text) = colored text.now
keys_of (code_key.Within section name) = within section.now (option_copied name)

abbrev pub choice_of : code.Choice → Choice
choice_of c = record {
  keys = keys_of c.keys;
  fixed = option_copied c.fixed;
  values = option_map (λ m. matcher_pattern m.value) c.values;
  is_negated = c.is_negated;
}

-- whether a pattern is found in a text
abbrev pub is_found : Re → List ℕ → Bool
is_found pattern text = is_some (find pattern text 0)

-- a key that is listed as this text has this section, and this name if there is one, ignoring ASCII case
pub record IsWithin (section : List ℕ) (name : Option (List ℕ)) (text : List ℕ) : Type 0 where
  pub key : Key
  pub is_cut : IsCut text key
  pub same_section : map to_ascii_lowercase key.section ≡ map to_ascii_lowercase section
  pub same_name : IfSome name (λ name. map to_ascii_lowercase key.name ≡ map to_ascii_lowercase name)

-- a key that is listed as this text is asked for, if its text decides that
abbrev pub FitsListed : Keys → List ℕ → Type 0
FitsListed (found pattern) text = is_found pattern text ≡ true
FitsListed (listed_as name) text = text ≡ name
FitsListed (colored name) text = (text ≡ name) ⊎ (text ≡ codes "diff.color") ⊎ (text ≡ codes "color.ui")
FitsListed (within section name) text = IsWithin section name text
FitsListed _ text = ⊤

-- an entry that Git lists under this text has a key that is asked for
abbrev pub FitsKey : Keys → Entry → List ℕ → Type 0
FitsKey (one key) entry text = HasKey entry key
FitsKey keys entry text = FitsListed keys text

-- a value is this one, or the pattern is found in it, or not found if that is asked for
abbrev pub FitsValue : Option (List ℕ) → Option Re → (is_negated : Bool) → List ℕ → Type 0
FitsValue (Some fixed) values is_negated value = value ≡ fixed
FitsValue None (Some values) is_negated value = is_found values value ≡ not is_negated
FitsValue None None is_negated value = ⊤

-- a setting has a value that is asked for; that of a key alone counts as empty
abbrev pub HasAskedValue : Choice → Setting → Type 0
HasAskedValue choice setting = FitsValue choice.fixed choice.values choice.is_negated (path_bytes setting)

-- the setting of an entry of this file, with its scope, if it is asked for, or `None` if it is not
abbrev pub Takes : Choice → Scope → List ℕ × Entry → List ℕ → Option Setting → Type 0
Takes choice scope item listed (Some setting) = IsSettingOf item setting × (setting.scope ≡ scope)
    × FitsKey choice.keys item.1 listed × HasAskedValue choice setting
Takes choice scope item listed None = (¬ (FitsKey choice.keys item.1 listed))
    ⊎ ((setting : Setting) × IsSettingOf item setting × ¬ (HasAskedValue choice setting))
