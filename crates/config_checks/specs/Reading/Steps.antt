-- What the steps of a check count, and what is received.
use Rattle.std.specs.Prelude.{◌≡◌, ◌≢◌, ⊤, ℕ, ◌+◌, ◌^◌, ◌<◌, ◌≤◌, List, [], ◌∷◌, ◌++◌, Option, None, Some}
use Rattle.std.specs.Prelude.{option_map}
use Rattle.std.specs.Prelude.{Bool, true, false, not, IsTrue, ◌↔◌, IfSome, ◌==◌, ◌*◌, ◌%◌, slice_index_or}
use Rattle.std.specs.Prelude.{All, codes, map, length, take}
use Rattle.std.specs.List.{AllZip, list_any, fold}
use Rattle.std.specs.Char.{to_ascii_lowercase}
use denote.Ref.{Bor}
use Rattle.config_text.specs.SameWord.{SameWord}
use Rattle.config_file.specs.Key.{Key}
use Rattle.config_file.specs.KeyView.{key_of}
use Rattle.config_file.specs.declared.errors.FileError as errors
use Rattle.config_file.specs.File.{IsFile}
use Rattle.config_file.specs.Views.{entry_of}
use Rattle.config_checks.specs.declared.options.Options.{Options}
use Rattle.config_checks.specs.declared.code.Code.TheVariants as kind
use Rattle.config_checks.specs.declared.row.Row.{Row}
use Rattle.config_checks.specs.declared.setting.Setting.{Setting}
use Rattle.config_checks.specs.declared.check.Counts.{Counts}
use Rattle.config_checks.specs.Findings.{Finding}
use Rattle.config_checks.specs.declared.check.Said.{Said}
use Rattle.config_checks.specs.declared.alike.NameFacts.{NameFacts}
use Rattle.config_checks.specs.declared.suggestion.UnknownKey.{UnknownKey}
use Rattle.config_checks.specs.declared.suggestion.Relation.{Relation}
use Rattle.config_checks.specs.declared.suggestion.Relation.TheVariants as relations
use Rattle.config_checks.specs.declared.suggestion.SectionFacts.{SectionFacts}
use Rattle.config_checks.specs.declared.mending.FileEntries.{FileEntries}
use Rattle.config_checks.specs.declared.row.Run.{Run}
use Rattle.config_checks.specs.Rows.{rows_of}
use Rattle.config_checks.specs.Nearest.{FewEdits}
use Rattle.config_checks.specs.Settings.{IsSettingOf}
use Rattle.config_checks.specs.Suggestions.{AreAlike, IsOtherWord, IsPassed, IsUnknownKey, unknown_severity}
use Rattle.config_checks.specs.Suggestions.{unknown_text, SectionEdits, HasSection}
use Rattle.config_checks.specs.Report.{ReportsSetting, Report, EndsReport, HasSettings, Receives, key_meant}

-- the texts do not begin with the same byte
abbrev pub AreApart : List ℕ → List ℕ → Type 0
AreApart (x ∷ xs) (y ∷ ys) = x ≢ y
AreApart a b = ⊤

-- what two texts have after the longest text that both begin with
pub record AreRests (a b x y : List ℕ) : Type 0 where
  pub front : List ℕ
  pub first : a ≡ front ++ x
  pub second : b ≡ front ++ y
  pub apart : AreApart x y

-- the bytes are the same, ignoring ASCII case
abbrev pub is_same_byte : ℕ → ℕ → Bool
is_same_byte a b = to_ascii_lowercase a == to_ascii_lowercase b

-- the text has the byte, ignoring ASCII case
abbrev pub has_byte : List ℕ → ℕ → Bool
has_byte text byte = list_any (is_same_byte byte) text

-- no count is greater than that of the entries
pub record AreWithin (s : Counts) : Type 0 where
  pub unknown : s.unknown ≤ s.entries
  pub findings : s.findings ≤ s.entries
  pub errors : s.errors ≤ s.entries
  pub warnings : s.warnings ≤ s.entries

-- one more entry can be counted, and no count is greater than that of the entries
pub record HasRoom (s : Counts) : Type 0 where
  pub entries : s.entries + 1 < 2 ^ 64
  pub others : AreWithin s

pub record HasRoomForFinding (s : Counts) : Type 0 where
  pub findings : s.findings + 1 < 2 ^ 64
  pub errors : s.errors + 1 < 2 ^ 64
  pub warnings : s.warnings + 1 < 2 ^ 64

-- the setting is counted, and its finding is received
abbrev pub Reports : List Row → Options → Setting → Counts → Counts → Option (List Finding)
    → Option (List Finding) → Type 0
Reports rows options setting s s' known known' =
    (said : List Finding) × ReportsSetting rows options setting s said s' × Receives known known' said

-- the key is passed, or it is unknown and reported with these texts
abbrev pub IsSaidAs : List Row → List ℕ → Option (List ℕ) → Option (List ℕ) → Type 0
IsSaidAs rows key None meant = IsPassed rows key
IsSaidAs rows key (Some text) meant =
    (unknown : UnknownKey) × IsUnknownKey rows key unknown × (text ≡ unknown_text unknown)
    × (meant ≡ key_meant unknown)

abbrev pub IsSaid : List Row → Said → Type 0
IsSaid rows said = IsSaidAs rows said.key.items (option_map (λ t. t.items) said.reason)
    (option_map (λ t. t.items) said.meant)

-- the finding about a setting, which this many entries precede, whose key is reported with these texts
abbrev pub findings_as : (before : ℕ) → Setting → Option (List ℕ) → Option (List ℕ) → List Finding
findings_as before setting None meant = []
findings_as before setting (Some text) meant = record {
  file = setting.file.now;
  line = setting.line;
  entry = Some before;
  code = kind.UnknownKey;
  severity = unknown_severity setting.key.items;
  key = Some setting.key.items;
  row = None;
  value = None;
  reason = text;
  fault = None;
  suggested_key = meant;
  suggested_value = None;
} ∷ []

abbrev pub said_findings : (before : ℕ) → Setting → Said → List Finding
said_findings before setting said =
    findings_as before setting (option_map (λ t. t.items) said.reason) (option_map (λ t. t.items) said.meant)

abbrev pub is_some : Option (List ℕ) → Bool
is_some None = false
is_some (Some t) = true

abbrev pub is_reported : Said → Bool
is_reported said = is_some (option_map (λ t. t.items) said.reason)

-- if the file is refused, its error is received and counted
abbrev pub ReportsError : List ℕ → Option errors.FileError → Counts → Counts → Option (List Finding)
    → Option (List Finding) → Type 0
ReportsError file error s s' known known' =
    (last : List Finding) × EndsReport file error s last s' × Receives known known' last

-- the findings of these settings are received
abbrev pub ReportsAll : List Row → Options → List Setting → Option (List Finding) → Option (List Finding)
    → Counts → Type 0
ReportsAll rows options settings known known' s =
    (found : List Finding) × Receives known known' found × Report rows options settings found s

-- the findings of the settings of a file are received, up to its end or to this error
pub record ReportsEntries (rows : List Row) (options : Options) (file text : List ℕ)
    (known known' : Option (List Finding))
    (s : Counts) (error : Option errors.FileError) : Type 0 where
  pub settings : List Setting
  pub of_file : HasSettings file text settings error
  pub all : ReportsAll rows options settings known known' s

-- every other field is one behind which a color stands no more: `color` if the last is where a color belongs
pub data Turn : (color : Bool) → List (List ℕ) → Type 0 where
  start : Turn false []
  turn : (color : Bool) (fields : List (List ℕ)) (field : List ℕ) → Turn color fields
      → Turn (not color) (fields ++ field ∷ [])

-- the number of edits, or `None` if there is no such number of at most three
abbrev pub IsFew : (ℕ → Type 0) → Option ℕ → Type 0
IsFew AreEdits None = (n : ℕ) → AreEdits n → 3 < n
IsFew AreEdits (Some n) = AreEdits n × (n ≤ 3)

-- ---- what is known of the name of a key

-- the byte is marked, in both cases if it is a letter
abbrev pub IsMarkedByte : List Bool → ℕ → Type 0
IsMarkedByte marks byte =
    (x : ℕ) → to_ascii_lowercase x ≡ to_ascii_lowercase byte → slice_index_or marks x false ≡ true

-- the word of rows for which people write the text, or `None` if they write it for no word
abbrev pub IsOtherFor : List ℕ → Option (Bor (List ℕ)) → Type 0
IsOtherFor t None = (row : List ℕ) → ¬ (IsOtherWord row t)
IsOtherFor t (Some word) = (row : List ℕ) → SameWord word.now row ↔ IsOtherWord row t

-- what is known of a name holds for this one
pub record IsName (t : List ℕ) (name : NameFacts) : Type 0 where
  pub bytes : All (IsMarkedByte name.bytes) t
  pub word : IsOtherFor t name.word

-- the name of a row is neither that of a key, nor near it nor like it
pub record IsUnlike (row t : List ℕ) : Type 0 where
  pub far : (n : ℕ) → ¬ (FewEdits 5 row t n)
  pub unlike : ¬ (AreAlike row t)
  pub no_word : ¬ (IsOtherWord row t)
  pub other : ¬ (SameWord row t)

-- ---- marks of names

-- the number of a name with one more byte, ignoring ASCII case
abbrev pub next_number : ℕ → ℕ → ℕ
next_number n b = ((n % 32768) * 31 + to_ascii_lowercase b) % 32768

abbrev pub number_of : List ℕ → ℕ
number_of name = fold next_number 0 name

-- the number of the name is marked, or there is no mark for it
abbrev pub HasMark : List Bool → List ℕ → Type 0
HasMark marks name = slice_index_or marks (number_of name) true ≡ true

-- the name of the row is marked, and its section too if the row is for all names
pub record IsMarked (marks : List Bool) (row : Row) : Type 0 where
  pub name : HasMark marks (key_of row.key).name
  pub section : (key_of row.key).name ≡ codes "*" → HasMark marks (key_of row.key).section

abbrev pub AreMarked : List Row → List Bool → Type 0
AreMarked rows marks = All (IsMarked marks) rows

-- neither the name nor the section of the key is marked
pub record LacksMarks (marks : List Bool) (key : Key) : Type 0 where
  pub name : ¬ (HasMark marks key.name)
  pub section : ¬ (HasMark marks key.section)

-- ---- runs of a section

-- no run is of the section
abbrev pub LacksSection : List Run → List ℕ → Type 0
LacksSection runs section = All (λ run. ¬ (SameWord run.section.now section)) runs

-- no run before this one is of its section
abbrev pub IsFirstRun : List Run → ℕ → Type 0
IsFirstRun runs place = (run : Run) → place < length runs → slice_index_or runs place run ≡ run
    → LacksSection (take place runs) run.section.now

-- ---- what is known of a section

-- how the section of rows is related to a section
abbrev pub IsRelation : List ℕ → List ℕ → Relation → Type 0
IsRelation row section relations.Same = SameWord row section
IsRelation row section (relations.Near n) = ¬ (SameWord row section) × (SectionEdits row section n × (n ≤ 3))
IsRelation row section relations.Far = ¬ (SameWord row section) × ((n : ℕ) → SectionEdits row section n → 3 < n)

-- each of these is how the section of a run is related to a section
abbrev pub AreRelations : List Run → List ℕ → List Relation → Type 0
AreRelations runs section = AllZip (λ run. IsRelation run.section.now section) runs

-- what is known of a section holds for these runs
pub record IsSection (runs : List Run) (s : SectionFacts) : Type 0 where
  pub relations : AreRelations runs s.name.items s.relations.items
  pub known : IsTrue s.is_known ↔ HasSection (rows_of runs) s.name.items

-- what is said of a key, and what is known of a section if something is
abbrev pub IsKept : List Run → Said → Type 0
IsKept runs said = IsSaid (rows_of runs) said × IfSome said.section (IsSection runs)

-- ---- the entries in which findings are mended

-- the file of this name and text has these entries up to its end, or up to this error
abbrev pub HasEntries : List ℕ → List ℕ → FileEntries → Option errors.FileError → Type 0
HasEntries file text read error =
    (read.file.now ≡ file) × IsFile text (map entry_of read.entries.items) error

-- these are the settings of the entries of a file that is read to its end
abbrev pub AreSettings : FileEntries → List Setting → Type 0
AreSettings read settings = (text : List ℕ) × IsFile text (map entry_of read.entries.items) None
    × AllZip (IsSettingOf read.file.now) (map entry_of read.entries.items) settings
