-- The settings of a command: what the variables of Git say, and the entries that have these settings.
--
-- Look for: quoted texts, keys and values, and the number of `GIT_CONFIG_COUNT`. A parameter without a
-- quoted value is cut at its first `=`. `RefusesParameters`: the first thing that is refused.
use Rattle.std.specs.Prelude.{◌≡◌, ◌≢◌, ℕ, ◌-◌, ◌^◌, ◌<◌, ◌≤◌, Bool, true, false, not, ◌&&◌, ◌||◌, ◌==◌, ◌⊎◌}
use Rattle.std.specs.Prelude.{nat_lt, List, [], ◌∷◌, ◌++◌, Option, Some, None, Result, Ok, Err, if◌then◌else◌}
use Rattle.std.specs.Prelude.{codes, ⊤}
use Rattle.std.specs.List.{list_any, AllZip}
use Rattle.std.specs.Fmt.{decimal}
use Rattle.std.specs.Str.Parse.{IsNumeral, digits_value}
use Rattle.config_file.specs.declared.command.CommandError.{CommandError}
use Rattle.config_file.specs.declared.command.CommandError.TheVariants as error
use Rattle.config_file.specs.Bytes.{line_feed, backslash, equals_sign, dash, is_blank}
use Rattle.config_file.specs.Runs.{Run}
use Rattle.config_file.specs.File.{Entry, IsFile}
use Rattle.config_file.specs.Errors.{name_shown}
use Rattle.config_file.specs.Key.{Key, IsKey, RefusesKey, key_error_text}
use Rattle.config_file.specs.Spelling.{IsEntry, EndsLine}

abbrev pub exclamation_mark : ℕ
exclamation_mark = 33

abbrev pub single_quote : ℕ
single_quote = 39

abbrev pub plus_sign : ℕ
plus_sign = 43

-- SP, TAB, LF or CR
abbrev pub is_white : ℕ → Bool
is_white b = is_blank b || b == line_feed

-- whether a quoted text goes on after a quote: by a backslash, `'` or `!`, and a quote
abbrev pub goes_on : List ℕ → Bool
goes_on (a ∷ b ∷ c ∷ rest) =
    (a == backslash && (b == single_quote || b == exclamation_mark)) && c == single_quote
goes_on _ = false

-- after its opening quote, the text has this quoted text, the closing quote, and then this rest
pub data Quotes : List ℕ → List ℕ → List ℕ → Type 0 where
  closes : {b : ℕ} {rest : List ℕ}
      → b ≡ single_quote → goes_on rest ≡ false
      → Quotes (b ∷ rest) [] rest
  escaped : {a b c d : ℕ} {text quoted rest : List ℕ}
      → a ≡ single_quote → goes_on (b ∷ c ∷ d ∷ text) ≡ true → Quotes text quoted rest
      → Quotes (a ∷ b ∷ c ∷ d ∷ text) (c ∷ quoted) rest
  plain : {b : ℕ} {text quoted rest : List ℕ}
      → b ≢ single_quote → Quotes text quoted rest
      → Quotes (b ∷ text) (b ∷ quoted) rest

-- the text begins with this text in quotes, and then has this rest
pub data TakesQuoted : List ℕ → List ℕ → List ℕ → Type 0 where
  opens : {b : ℕ} {text quoted rest : List ℕ}
      → b ≡ single_quote → Quotes text quoted rest
      → TakesQuoted (b ∷ text) quoted rest

-- the rest is empty, or begins with white space
abbrev pub EndsParameter : List ℕ → Type 0
EndsParameter [] = ⊤
EndsParameter (b ∷ rest) = is_white b ≡ true

-- a parameter: a text, as older Gits wrote it, or a key and its value, if it has one
pub data Parameter : Type 0 where
  whole : List ℕ → Parameter
  pair : List ℕ → Option (List ℕ) → Parameter

-- after `=`, the text has this value in quotes, or none, and then this rest, before which the parameter ends
pub data AfterEquals : List ℕ → Option (List ℕ) → List ℕ → Type 0 where
  absent : {rest : List ℕ} → EndsParameter rest → AfterEquals rest None rest
  present : {text value rest : List ℕ}
      → TakesQuoted text value rest → EndsParameter rest
      → AfterEquals text (Some value) rest

-- the text begins with this parameter: a quoted text, or a quoted key, `=`, and a quoted value or none
pub data TakesParameter : List ℕ → Parameter → List ℕ → Type 0 where
  text_alone : {text quoted rest : List ℕ}
      → TakesQuoted text quoted rest → EndsParameter rest
      → TakesParameter text (whole quoted) rest
  key_and_value : {b : ℕ} {text key after rest : List ℕ} {value : Option (List ℕ)}
      → TakesQuoted text key (b ∷ after) → b ≡ equals_sign → AfterEquals after value rest
      → TakesParameter text (pair key value) rest

abbrev pub is_no_equals : ℕ → Bool
is_no_equals b = not (b == equals_sign)

-- the value after an `=`, if there is one
abbrev pub value_after : List ℕ → Option (List ℕ)
value_after [] = None
value_after (b ∷ value) = Some value

-- the text of a key, and the value, if there is one
abbrev pub KeyValue : Type 0
KeyValue = List ℕ × Option (List ℕ)

abbrev pub key_value : List ℕ → Option (List ℕ) → KeyValue
key_value key value = (key, value)

-- the parameter has this setting: a text is cut at its first `=`
pub data Says : Parameter → KeyValue → Type 0 where
  cut : {text key rest : List ℕ} → Run is_no_equals text key rest → Says (whole text) (key, value_after rest)
  as_given : {key : List ℕ} {value : Option (List ℕ)} → Says (pair key value) (key, value)

-- the text has these settings: parameters, each followed by any white space
pub data SettingsOf : List ℕ → List KeyValue → Type 0 where
  none : SettingsOf [] []
  more : {text rest white next : List ℕ} {parameter : Parameter} {setting : KeyValue} {settings : List KeyValue}
      → TakesParameter text parameter rest → Says parameter setting
      → Run is_white rest white next → SettingsOf next settings
      → SettingsOf text (setting ∷ settings)

-- the entry has this key, and this value
pub record IsSetting (setting : KeyValue) (entry : Entry) : Type 0 where
  pub key : Key
  pub is_key : IsKey setting.0 key
  pub is_entry : IsEntry key.section key.subsection key.name setting.1 entry.line entry

-- If a line can be appended to a configuration file, these bytes add an entry to it for each of these
-- settings, in their order. After that, a line can be appended again.
abbrev pub AddsSettings : List ℕ → List KeyValue → Type 0
AddsSettings bytes settings =
    (text : List ℕ) (entries : List Entry) → IsFile text entries None → EndsLine text
    → (added : List Entry) × AllZip IsSetting settings added
    × IsFile (text ++ bytes) (entries ++ added) None × EndsLine (text ++ bytes)

abbrev pub has_nul : List ℕ → Bool
has_nul bytes = list_any (λ b. b == 0) bytes

abbrev pub some_has_nul : Option (List ℕ) → Bool
some_has_nul None = false
some_has_nul (Some bytes) = has_nul bytes

-- the key is one, and neither it nor the value has a NUL
pub record Accepts (setting : KeyValue) : Type 0 where
  pub key : Key
  pub is_key : IsKey setting.0 key
  pub no_nul : (has_nul setting.0 || some_has_nul setting.1) ≡ false

-- why a setting is refused: its key is empty; its key is none; or it has a NUL
abbrev pub RefusesSetting : KeyValue → CommandError → Type 0
RefusesSetting setting error.EmptyKey = setting.0 ≡ []
RefusesSetting setting (error.Key shown reason) =
    (setting.0 ≢ []) × (shown.items ≡ setting.0) × RefusesKey setting.0 reason
RefusesSetting setting error.Nul =
    (key : Key) × IsKey setting.0 key × ((has_nul setting.0 || some_has_nul setting.1) ≡ true)
RefusesSetting setting (error.Memory _) = ⊤
RefusesSetting setting _ = ⊥

-- a text without a key is refused, which the error shows
abbrev pub RefusesText : List ℕ → CommandError → Type 0
RefusesText text (error.NoKey shown) = shown.items ≡ text
RefusesText text _ = ⊥

-- why a parameter is refused: it is a text that is empty or begins with `=`, or its setting is refused
pub data RefusesParameter : Parameter → CommandError → Type 0 where
  no_key : {text rest : List ℕ} {error : CommandError}
      → Run is_no_equals text [] rest → RefusesText text error
      → RefusesParameter (whole text) error
  of_text : {text key rest : List ℕ} {error : CommandError}
      → Run is_no_equals text key rest → key ≢ [] → RefusesSetting (key, value_after rest) error
      → RefusesParameter (whole text) error
  of_pair : {key : List ℕ} {value : Option (List ℕ)} {error : CommandError}
      → RefusesSetting (key, value) error
      → RefusesParameter (pair key value) error

-- the text begins with no parameter
abbrev pub LacksParameter : List ℕ → Type 0
LacksParameter text = (parameter : Parameter) (rest : List ℕ) → ¬ (TakesParameter text parameter rest)

-- what the text itself is refused for: it begins with no parameter, or memory is refused
abbrev pub RefusesFormat : List ℕ → CommandError → Type 0
RefusesFormat text error.BadFormat = (text ≢ []) × LacksParameter text
RefusesFormat text (error.Memory _) = ⊤
RefusesFormat text _ = ⊥

-- the first thing that is refused, and why
pub data RefusesParameters : List ℕ → CommandError → Type 0 where
  format : {text : List ℕ} {error : CommandError} → RefusesFormat text error → RefusesParameters text error
  this : {text rest : List ℕ} {parameter : Parameter} {error : CommandError}
      → TakesParameter text parameter rest → RefusesParameter parameter error
      → RefusesParameters text error
  later : {text rest white next : List ℕ} {parameter : Parameter} {setting : KeyValue} {error : CommandError}
      → TakesParameter text parameter rest → Says parameter setting → Accepts setting
      → Run is_white rest white next → RefusesParameters next error
      → RefusesParameters text error

-- white space of C
abbrev pub is_c_space : ℕ → Bool
is_c_space b = b == 32 || (nat_lt 8 b && nat_lt b 14)

-- whether a `-` comes first, and the digits after the sign, if there is one
pub data Signed : List ℕ → Bool → List ℕ → Type 0 where
  minus : {b : ℕ} {digits : List ℕ} → b ≡ dash → Signed (b ∷ digits) true digits
  after_plus : {b : ℕ} {digits : List ℕ} → b ≡ plus_sign → Signed (b ∷ digits) false digits
  no_sign : {digits : List ℕ} → Signed digits false digits

-- the text is a number of C: white space, a sign if there is one, and one or more digits
pub record IsNumber (text : List ℕ) (is_negative : Bool) (digits : List ℕ) : Type 0 where
  pub spaces : List ℕ
  pub signed : List ℕ
  pub space_run : Run is_c_space text spaces signed
  pub sign : Signed signed is_negative digits
  pub numeral : IsNumeral 10 digits

-- the number in 64 bits, which count down from 2 to the power of 64 after a `-`
abbrev pub in_64_bits : Bool → ℕ → ℕ
in_64_bits is_negative number = if is_negative && not (number == 0) then 2 ^ 64 - number else number

-- what the text of GIT_CONFIG_COUNT counts, up to 2147483647; an empty text counts none
abbrev pub Counts : List ℕ → Result ℕ CommandError → Type 0
Counts text (Ok count) = ((text ≡ []) × (count ≡ 0)) ⊎ ((is_negative : Bool) × (digits : List ℕ)
    × IsNumber text is_negative digits × (digits_value 10 digits < 2 ^ 64)
    × (count ≡ in_64_bits is_negative (digits_value 10 digits)) × (count ≤ 2147483647))
Counts text (Err error.BadCount) =
    (text ≢ []) × ((is_negative : Bool) (digits : List ℕ) → ¬ (IsNumber text is_negative digits))
Counts text (Err error.TooMany) = (is_negative : Bool) × (digits : List ℕ) × IsNumber text is_negative digits
    × (digits_value 10 digits < 2 ^ 64 → 2147483647 < in_64_bits is_negative (digits_value 10 digits))
Counts text (Err _) = ⊥

-- why the settings of a command are refused, in Git's words
abbrev pub command_error_shown : CommandError → List ℕ
command_error_shown error.BadCount = codes "bogus count in GIT_CONFIG_COUNT"
command_error_shown error.TooMany = codes "too many entries in GIT_CONFIG_COUNT"
command_error_shown (error.MissingKey n) = codes "missing config key GIT_CONFIG_KEY_" ++ decimal n
command_error_shown (error.MissingValue n) = codes "missing config value GIT_CONFIG_VALUE_" ++ decimal n
command_error_shown error.BadFormat = codes "bogus format in GIT_CONFIG_PARAMETERS"
command_error_shown (error.NoKey text) = codes "bogus config parameter: " ++ name_shown text.items
command_error_shown error.EmptyKey = codes "empty config key"
command_error_shown (error.Key key reason) = key_error_text reason ++ codes ": " ++ name_shown key.items
command_error_shown error.Nul = codes "a NUL byte in the settings of a command"
command_error_shown (error.Memory _) = codes "no memory"
