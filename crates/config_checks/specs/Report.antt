-- What a check of a file finds: the findings of its entries, in their order.
use Rattle.std.specs.Prelude.{◌≡◌, ⊤, ℕ, ◌+◌, ◌-◌, ◌==◌, if◌then◌else◌, codes, List, [], ◌∷◌, ◌++◌, Option}
use Rattle.std.specs.Prelude.{None, Some, option_map, option_copied}
use Rattle.std.specs.Fmt.{decimal}
use Rattle.std.specs.List.{AllZip}
use Rattle.config_file.specs.declared.errors.FileError as errors
use Rattle.config_file.specs.Errors.{why_text}
use Rattle.config_file.specs.declared.errors.Why.{Why}
use Rattle.config_file.specs.declared.errors.Why.TheVariants.{BadLine}
use Rattle.config_file.specs.File.{Entry, IsFile}
use Rattle.config_file.specs.Key.{written}
use Rattle.config_file.specs.KeyView.{key_of}
use Rattle.config_text.specs.declared.errors.Fault as faults
use Rattle.config_text.specs.declared.errors.Fault.TheVariants.{Boolean, Integer}
use denote.Ref.{Bor}
use Rattle.config_checks.specs.declared.kind.Form.{Form}
use Rattle.config_checks.specs.declared.kind.Form.TheVariants as forms
use Rattle.config_checks.specs.declared.options.Options.{Options}
use Rattle.config_checks.specs.declared.code.Code.TheVariants as kind
use Rattle.config_checks.specs.declared.row.Row.{Row}
use Rattle.config_checks.specs.declared.setting.Setting.{Setting}
use Rattle.config_checks.specs.declared.reason.Reason.{Reason}
use Rattle.config_checks.specs.declared.reason.Reason.TheVariants.{Refused, NoWord, IsNot, Deprecated}
use Rattle.config_checks.specs.declared.reason.Reason.TheVariants.{Outdated, NotCanonical, OtherCase}
use Rattle.config_checks.specs.declared.reason.Severity.{Severity}
use Rattle.config_checks.specs.declared.reason.Severity.TheVariants.{Error, Warning, Note}
use Rattle.config_checks.specs.declared.suggestion.UnknownKey.{UnknownKey}
use Rattle.config_checks.specs.declared.check.Counts.{Counts}
use Rattle.config_checks.specs.Rows.{Decides, IsUnknown}
use Rattle.config_checks.specs.Settings.{IsSettingOf, value_of}
use Rattle.config_checks.specs.Reasons.{HasFinding, severity_of}
use Rattle.config_checks.specs.Codes.{code_of}
use Rattle.config_checks.specs.Findings.{Finding, reason_text}
use Rattle.config_checks.specs.Suggestions.{IsPassed, IsUnknownKey, unknown_severity, nearest_of, unknown_text}

-- ---- a finding

-- the value that is suggested, if there is one
abbrev pub value_meant : Reason → Option (List ℕ)
value_meant (NoWord list meant) = option_copied meant
value_meant (IsNot wanted) = Some wanted.now
value_meant (NotCanonical canonical) = Some canonical.bytes
value_meant (OtherCase word) = Some word.now
value_meant (Outdated word) = Some word.now
value_meant _ = None

-- the key that is suggested in place of a deprecated one
abbrev pub instead_of : Reason → Option (List ℕ)
instead_of (Deprecated word) = Some word.now
instead_of _ = None

-- the fault of the reader that also refuses a text which no word of a list of this form is near
abbrev pub fault_of_form : Form → Option faults.Fault
fault_of_form forms.BoolOrWord = Some Boolean
fault_of_form forms.IntOrWord = Some Integer
fault_of_form _ = None

abbrev pub fault_of_list : Form → Option (Bor (List ℕ)) → Option faults.Fault
fault_of_list form None = fault_of_form form
fault_of_list form (Some word) = None

-- the fault of the reader that refuses the value, if one does and no word is suggested
abbrev pub fault_of : Reason → Option faults.Fault
fault_of (Refused fault) = Some fault
fault_of (NoWord list meant) = fault_of_list list.now.form meant
fault_of _ = None

-- the finding that the row of a setting, which this many entries precede, gives for a reason
abbrev pub reason_finding : (before : ℕ) → Setting → Row → Reason → Finding
reason_finding before setting row reason = record {
  file = setting.file.now;
  line = setting.line;
  entry = Some before;
  code = code_of reason;
  severity = severity_of row.goes_on reason;
  key = Some setting.key.items;
  row = Some (key_of row.key);
  value = value_of setting;
  reason = reason_text reason;
  fault = fault_of reason;
  suggested_key = instead_of reason;
  suggested_value = value_meant reason;
}

-- the text of the key that is suggested, if a key is near
abbrev pub key_meant : UnknownKey → Option (List ℕ)
key_meant unknown = option_map written (nearest_of unknown)

-- the finding about a setting with an unknown key
abbrev pub unknown_finding : (before : ℕ) → Setting → UnknownKey → Finding
unknown_finding before setting unknown = record {
  file = setting.file.now;
  line = setting.line;
  entry = Some before;
  code = kind.UnknownKey;
  severity = unknown_severity setting.key.items;
  key = Some setting.key.items;
  row = None;
  value = None;
  reason = unknown_text unknown;
  fault = None;
  suggested_key = key_meant unknown;
  suggested_value = None;
}

-- why a file is refused at a line
abbrev pub reason_shown : Why → List ℕ
reason_shown BadLine = codes "Git cannot read this line, and reads nothing of the file"
reason_shown why = why_text why

abbrev pub refused_finding : List ℕ → errors.FileError → Finding
refused_finding file error = record {
  file = file;
  line = error.line;
  entry = None;
  code = kind.InvalidLine;
  severity = Error;
  key = None;
  row = None;
  value = None;
  reason = reason_shown error.why;
  fault = None;
  suggested_key = None;
  suggested_value = None;
}

-- ---- the report

-- the counts with one more finding
abbrev pub counted : Severity → Counts → Counts
counted Error s = record s { findings = s.findings + 1; errors = s.errors + 1 }
counted Warning s = record s { findings = s.findings + 1; warnings = s.warnings + 1 }
counted Note s = record s { findings = s.findings + 1 }

-- the counts before the first entry
abbrev pub no_counts : Counts
no_counts = record { entries = 0; unknown = 0; findings = 0; errors = 0; warnings = 0 }

-- the finding of a setting, if there is one, and the counts before and after it
pub data ReportsSetting (rows : List Row) (options : Options) (setting : Setting) (s : Counts)
    (said : List Finding) (s' : Counts)
    : Type 0 where
  unknown : IsUnknown rows setting.key.items → IsPassed rows setting.key.items → said ≡ []
      → s' ≡ record s { entries = s.entries + 1; unknown = s.unknown + 1 }
      → ReportsSetting rows options setting s said s'
  misspelled : (key : UnknownKey) → IsUnknownKey rows setting.key.items key
      → said ≡ unknown_finding s.entries setting key ∷ []
      → s' ≡ counted (unknown_severity setting.key.items)
      (record s { entries = s.entries + 1; unknown = s.unknown + 1 })
      → ReportsSetting rows options setting s said s'
  right : (row : Row) → Decides rows setting.key.items row
      → HasFinding options row (value_of setting) None → said ≡ []
      → s' ≡ record s { entries = s.entries + 1 } → ReportsSetting rows options setting s said s'
  found : (row : Row) (reason : Reason) → Decides rows setting.key.items row
      → HasFinding options row (value_of setting) (Some reason)
      → said ≡ reason_finding s.entries setting row reason ∷ []
      → s' ≡ counted (severity_of row.goes_on reason) (record s { entries = s.entries + 1 })
      → ReportsSetting rows options setting s said s'

-- the findings of these settings, in order, and their counts
pub data Report (rows : List Row) (options : Options) : List Setting → List Finding → Counts → Type 0 where
  nothing : Report rows options [] [] no_counts
  next : (settings : List Setting) (found : List Finding) (s : Counts) (setting : Setting)
      (said : List Finding) (s' : Counts)
      → Report rows options settings found s → ReportsSetting rows options setting s said s'
      → Report rows options (settings ++ setting ∷ []) (found ++ said) s'

-- the last finding is the error of a refused file; there is none if the file is read to its end
abbrev pub EndsReport : List ℕ → Option errors.FileError → Counts → List Finding → Counts → Type 0
EndsReport file None s last s' = (last ≡ []) × (s' ≡ s)
EndsReport file (Some error) s last s' = (last ≡ refused_finding file error ∷ []) × (s' ≡ counted Error s)

-- the file of this name and text has these settings up to its end, or up to this error
abbrev pub HasSettings : List ℕ → List ℕ → List Setting → Option errors.FileError → Type 0
HasSettings file text settings error =
    (entries : List Entry) × IsFile text entries error × AllZip (IsSettingOf file) entries settings

-- all findings of a file, and their counts
pub record IsReport (rows : List Row) (options : Options) (file text : List ℕ) (all : List Finding)
    (s' : Counts) : Type 0 where
  pub settings : List Setting
  pub error : Option errors.FileError
  pub of_file : HasSettings file text settings error
  pub found : List Finding
  pub s : Counts
  pub report : Report rows options settings found s
  pub last : List Finding
  pub ends : EndsReport file error s last s'
  pub parts : all ≡ found ++ last

abbrev pub counts_shown : Counts → List ℕ
counts_shown s =
    decimal s.entries ++ ((if s.entries == 1 then codes " entry, " else codes " entries, ")
    ++ (decimal (s.entries - s.unknown) ++ (codes " judged, "
    ++ (decimal s.unknown ++ ((if s.unknown == 1 then codes " unknown key, " else codes " unknown keys, ")
    ++ (decimal s.findings ++ (if s.findings == 1 then codes " finding" else codes " findings")))))))

-- ---- what a receiver receives

-- the finding is about this setting, or about a line that is none
abbrev pub IsAbout : Option Setting → Finding → Type 0
IsAbout None f = f.key ≡ None
IsAbout (Some setting) f = (f.file ≡ setting.file.now) × (f.line ≡ setting.line) × (f.key ≡ Some setting.key.items)

-- known findings grow by these
abbrev pub Receives : Option (List Finding) → Option (List Finding) → List Finding → Type 0
Receives None after more = ⊤
Receives (Some had) None more = ⊥
Receives (Some had) (Some has) more = has ≡ had ++ more

-- all findings of the file are received; `known` and `known'` are what the receiver had before and after
abbrev pub Completes : List Row → Options → List ℕ → List ℕ → Option (List Finding) → Option (List Finding)
    → Counts → Type 0
Completes rows options file text known known' s =
    (all : List Finding) × Receives known known' all × IsReport rows options file text all s

-- the file has these first settings
pub record HasFirstSettings (file text : List ℕ) (first : List Setting) : Type 0 where
  pub before : List Entry
  pub after : List Entry
  pub error : Option errors.FileError
  pub is_file : IsFile text (before ++ after) error
  pub are : AllZip (IsSettingOf file) before first

-- the findings of some first settings of the file
pub record BeginsReport (rows : List Row) (options : Options) (file text : List ℕ)
    (found : List Finding) : Type 0 where
  pub first : List Setting
  pub of_file : HasFirstSettings file text first
  pub s : Counts
  pub report : Report rows options first found s

-- the findings of some first settings are received
abbrev pub Fails : List Row → Options → List ℕ → List ℕ → Option (List Finding) → Option (List Finding) → Type 0
Fails rows options file text known known' =
    (found : List Finding) × Receives known known' found × BeginsReport rows options file text found
