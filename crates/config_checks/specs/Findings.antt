-- A finding, and the texts of its parts.
use Rattle.std.specs.Prelude.{ℕ, zero, suc, ◌-◌, ◌==◌, List, [], ◌∷◌, ◌++◌, take, length, flat_map}
use Rattle.std.specs.Prelude.{option_copied, option_map, codes, Option, None, Some, if◌then◌else◌}
use Rattle.std.specs.Fmt.{decimal, signed_decimal}
use denote.Ref.{Bor}
use Rattle.bstr.specs.Utf8.{decoded}
use Rattle.config_text.specs.Faults.{fault_text}
use Rattle.config_text.specs.declared.errors.Fault.{Fault}
use Rattle.config_file.specs.Bytes.{backslash}
use Rattle.config_file.specs.Key.{Key}
use Rattle.config_file.specs.KeyView.{key_of}
use Rattle.config_file.specs.Shown.{hex, is_control}
use Rattle.config_integer.specs.declared.amount.Amount.{Amount}
use Rattle.config_checks.specs.declared.code.Code.{Code}
use Rattle.config_checks.specs.declared.finding.Finding as findings
use Rattle.config_checks.specs.declared.kind.Form.{Form}
use Rattle.config_checks.specs.declared.kind.Form.TheVariants as forms
use Rattle.config_checks.specs.declared.kind.WordList.{WordList}
use Rattle.config_checks.specs.declared.reason.Reason.{Reason}
use Rattle.config_checks.specs.declared.reason.Reason.TheVariants.{NoValue, Refused, OutOfRange, NoWord}
use Rattle.config_checks.specs.declared.reason.Reason.TheVariants.{NoHome, Misshapen, IsNot, TooNew, Gone}
use Rattle.config_checks.specs.declared.reason.Reason.TheVariants.{Deprecated, Outdated}
use Rattle.config_checks.specs.declared.reason.Reason.TheVariants.{NotCanonical, OtherCase}
use Rattle.config_checks.specs.Shapes.{shape_fault}
use Rattle.config_checks.specs.declared.version.Version.{Version}
use Rattle.config_checks.specs.declared.reason.Severity.{Severity}

-- ---- texts shown safely

-- how bytes are shown: in hexadecimal if they are a control character or are not a character, twice if they
-- are a backslash, and otherwise as they are
abbrev pub piece_shown : Option ℕ → List ℕ → List ℕ
piece_shown None bytes = flat_map hex bytes
piece_shown (Some c) bytes =
    if is_control c then flat_map hex bytes
    else if c == backslash then backslash ∷ backslash ∷ []
    else bytes

-- how the part of the text after its first `n` bytes is shown
unfoldable pub shown_past : ℕ → List ℕ → List ℕ
shown_past n [] = []
shown_past (suc n) (b ∷ bs) = shown_past n bs
shown_past zero (b ∷ bs) =
    let piece = decoded (b ∷ bs) in
    piece_shown piece.char (take piece.size (b ∷ bs)) ++ shown_past (piece.size - 1) bs

abbrev pub shown : List ℕ → List ℕ
shown = shown_past 0

-- ---- the text of a reason

abbrev pub range_text : Amount → Amount → List ℕ
range_text low high =
    (codes "out of range: not from " ++ signed_decimal low.0) ++ (codes " to " ++ signed_decimal high.0)

-- a text, and a version after it
abbrev pub version_text : List ℕ → Version → List ℕ
version_text front v = (front ++ signed_decimal v.major.0) ++ (codes "." ++ signed_decimal v.minor.0)

-- words with `, ` before each
abbrev pub listed : List (Bor (List ℕ)) → List ℕ
listed words = flat_map (λ word. codes ", " ++ shown word.now) words

-- words with `, ` between them
abbrev pub words_text : List (Bor (List ℕ)) → List ℕ
words_text [] = []
words_text (word ∷ words) = shown word.now ++ listed words

-- the text that precedes the words of a list
abbrev pub no_word_front : Form → List ℕ
no_word_front forms.Word = codes "not one of: "
no_word_front forms.BoolOrWord = codes "not a boolean, nor one of: "
no_word_front forms.IntOrWord = codes "not an integer, nor one of: "
no_word_front forms.Words = codes "not a list of: "
no_word_front forms.Date = codes "not a date: it has no digit, nor one of: "
no_word_front forms.SortKey = codes "not a key to sort by: "

-- how many words are not shown, if some are not
abbrev pub more_text : ℕ → List ℕ
more_text zero = []
more_text (suc n) = codes " and " ++ (decimal (suc n) ++ codes " more")

-- at most ten words, and how many more there are
abbrev pub few_words_text : List (Bor (List ℕ)) → List ℕ
few_words_text words = words_text (take 10 words) ++ more_text (length words - 10)

abbrev pub list_text : WordList → List ℕ
list_text list = no_word_front list.form ++ few_words_text list.words.items

abbrev pub word_asked : List ℕ → List ℕ
word_asked word = shown word ++ codes "?"

-- the text that suggests a word, or nothing if there is no word to suggest
abbrev pub meant_text : Option (Bor (List ℕ)) → List ℕ
meant_text None = []
meant_text (Some word) = codes "; did you mean " ++ word_asked word.now

abbrev pub no_word_text : WordList → Option (Bor (List ℕ)) → List ℕ
no_word_text list meant = list_text list ++ meant_text meant

abbrev pub reason_text : Reason → List ℕ
reason_text NoValue = codes "no value"
reason_text (Refused fault) = fault_text fault
reason_text (OutOfRange low high) = range_text low high
reason_text (NoWord list meant) = no_word_text list.now meant
reason_text NoHome = codes "no such user or no home directory"
reason_text (Misshapen shape) = shape_fault shape
reason_text (IsNot wanted) = codes "has to be " ++ shown wanted.now
reason_text (TooNew since) = version_text (codes "Git reads it only since ") since
reason_text (Gone until) = version_text (codes "Git reads it only before ") until
reason_text (Deprecated word) = codes "deprecated: use " ++ shown word.now
reason_text (Outdated word) = codes "deprecated: use " ++ shown word.now
reason_text (NotCanonical canonical) = codes "should be " ++ canonical.bytes
reason_text (OtherCase word) = codes "should be " ++ shown word.now

abbrev pub line_feed : ℕ
line_feed = 10

-- ---- the finding

-- a finding; a key alone and an unknown key have no value, and a line that Git cannot read has no key either;
-- an unknown
-- key has no row; `entry` is how many entries of the file precede that of the finding
pub record Finding : Type 0 where
  pub file : List ℕ
  pub line : ℕ
  pub entry : Option ℕ
  pub code : Code
  pub severity : Severity
  pub key : Option (List ℕ)
  pub row : Option Key
  pub value : Option (List ℕ)
  pub reason : List ℕ
  pub fault : Option Fault
  pub suggested_key : Option (List ℕ)
  pub suggested_value : Option (List ℕ)

abbrev pub finding_of : findings.Finding → Finding
finding_of f = record {
  file = f.file.now;
  line = f.line;
  entry = f.entry;
  code = f.code;
  severity = f.severity;
  key = option_copied f.key;
  row = option_map key_of f.row;
  value = option_copied f.value;
  reason = f.reason.now;
  fault = f.fault;
  suggested_key = option_copied f.suggested_key;
  suggested_value = option_copied f.suggested_value;
}
