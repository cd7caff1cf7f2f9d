-- What is wrong with the value of a setting, or with a key alone, according to its row.
use Rattle.std.specs.Prelude.{◌≡◌, ◌≢◌, ◌⊎◌, ℕ, pos, negsuc, ◌≤ℤ◌, List, Bool, true, false}
use Rattle.std.specs.Prelude.{Option, None, Some, if◌then◌else◌, ◌<◌, length, codes}
use denote.Ref.{Bor}
use Rattle.config_text.specs.declared.errors.Fault.{Fault}
use Rattle.config_text.specs.declared.errors.Fault.TheVariants as faults
use Rattle.config_text.specs.SameWord.{SameWord}
use Rattle.config_text.specs.Value.{IsRefused, IsAccepted, Normalizes}
use Rattle.config_text.specs.Refusals.{OnlyFault}
use Rattle.gix_config_value.specs.Boolean.{BooleanText, CanonicalBoolean}
use Rattle.gix_config_value.specs.Integer.{IntegerText, CanonicalInteger}
use Rattle.gix_config_value.specs.Amount.{AmountText, AmountFault}
use Rattle.gix_config_value.specs.Color.{ColorText, CanonicalColor}
use Rattle.config_integer.specs.declared.amount.Amount.{Amount}
use Rattle.config_checks.specs.declared.kind.Form.{Form}
use Rattle.config_checks.specs.declared.kind.Form.TheVariants as forms
use Rattle.config_checks.specs.declared.kind.WordList.{WordList}
use Rattle.config_checks.specs.declared.kind.SettingKind.{SettingKind}
use Rattle.config_checks.specs.declared.kind.SettingKind.TheVariants as kinds
use Rattle.config_checks.specs.declared.options.Options.{Options}
use Rattle.config_checks.specs.declared.paths.KnownUsers.{KnownUsers}
use Rattle.config_checks.specs.declared.row.Row.{Row}
use Rattle.config_checks.specs.declared.reason.Reason.{Reason}
use Rattle.config_checks.specs.declared.reason.Reason.TheVariants.{NoValue, Refused, OutOfRange, NoWord}
use Rattle.config_checks.specs.declared.reason.Reason.TheVariants.{NoHome, Misshapen, IsNot}
use Rattle.config_checks.specs.declared.reason.Reason.TheVariants.{TooNew, Gone, Deprecated, Outdated}
use Rattle.config_checks.specs.declared.reason.Reason.TheVariants.{NotCanonical, OtherCase}
use Rattle.config_checks.specs.declared.reason.Severity.{Severity}
use Rattle.config_checks.specs.declared.reason.Severity.TheVariants.{Error, Warning, Note}
use Rattle.config_checks.specs.Kinds.{IsPattern, IsSame, HasWord, IsNoWord, IsFirstWord, AreWords, HasDate}
use Rattle.config_checks.specs.Kinds.{IsSortKey}
use Rattle.config_checks.specs.Nearest.{FewEdits, AreFar, IsNearest}
use Rattle.config_checks.specs.Paths.{IsHomeless}
use Rattle.config_checks.specs.declared.shape.Shape.{Shape}
use Rattle.config_checks.specs.Shapes.{HasShape}
use Rattle.config_checks.specs.declared.version.Version.{Version}
use Rattle.config_checks.specs.Versions.{IsBefore, IsTooNew, IsOf}

-- ---- texts

-- no reason if the grammar gives the text a value; otherwise the fault of its reader
abbrev pub IsJudged : {V : Type 0} → (List ℕ → V → Type 0) → (List ℕ → Fault → Type 0) → List ℕ
    → Option Reason → Type 0
IsJudged grammar refusal t None = IsAccepted grammar t
IsJudged grammar refusal t (Some (Refused fault)) = refusal t fault × IsRefused grammar t
IsJudged grammar refusal t (Some _) = ⊥

-- the number lies in the range, and may be one of its ends
pub record IsWithin (low high n : Amount) : Type 0 where
  pub above : low.0 ≤ℤ n.0
  pub below : n.0 ≤ℤ high.0

-- the text is an integer text whose product lies in the range
abbrev pub IsNumber : Amount → Amount → List ℕ → Type 0
IsNumber low high t = (n : Amount) × AmountText t n × IsWithin low high n

-- no reason if the text is a number in the range; otherwise that it is out of range, or its reader's fault
abbrev pub IsJudgedWithin : Amount → Amount → List ℕ → Option Reason → Type 0
IsJudgedWithin low high t None = IsNumber low high t
IsJudgedWithin low high t (Some (OutOfRange l h)) =
    (l ≡ low) × (h ≡ high) × ((n : Amount) × AmountText t n × ¬ (IsWithin low high n))
IsJudgedWithin low high t (Some (Refused fault)) = AmountFault t fault × IsRefused AmountText t
IsJudgedWithin low high t (Some _) = ⊥

-- the least and the greatest signed number of 32 bits
abbrev pub least_int : Amount
least_int = record { 0 = negsuc 2147483647 }

abbrev pub greatest_int : Amount
greatest_int = record { 0 = pos 2147483647 }

abbrev pub IsInt : List ℕ → Type 0
IsInt = IsNumber least_int greatest_int

-- an integer text is judged as a number of 32 bits, since Git reads it as one, and any other text as a boolean
pub record IsJudgedBool (t : List ℕ) (r : Option Reason) : Type 0 where
  pub number : IsAccepted AmountText t → IsJudgedWithin least_int greatest_int t r
  pub other : IsRefused AmountText t → IsJudged BooleanText (OnlyFault faults.Boolean) t r

-- the form takes the text, even if no word of the list matches all of it
abbrev pub IsTakenByForm : WordList → List ℕ → Form → Type 0
IsTakenByForm list t forms.Word = ⊥
IsTakenByForm list t forms.BoolOrWord = IsJudgedBool t None
IsTakenByForm list t forms.IntOrWord = IsInt t
IsTakenByForm list t forms.Words = AreWords list t
IsTakenByForm list t forms.Date = HasDate list t
IsTakenByForm list t forms.SortKey = IsSortKey list t

-- a word of the list matches the text, or the form of the list takes the text
abbrev pub IsTaken : WordList → List ℕ → Type 0
IsTaken list t = HasWord list t ⊎ IsTakenByForm list t list.form

-- the word is near the text, `n` edits away; a word of at most two bytes, or with a final `*`, is never near
pub record WordEdits (t : List ℕ) (word : Bor (List ℕ)) (n : ℕ) : Type 0 where
  pub long : 2 < length word.now
  pub no_pattern : (front : List ℕ) → ¬ (IsPattern word.now front)
  pub edits : FewEdits 5 word.now t n

-- the word that is suggested for a text: the first of the nearest words, or `None` if no word is near
abbrev pub IsMeant : List (Bor (List ℕ)) → List ℕ → Option (Bor (List ℕ)) → Type 0
IsMeant words t None = AreFar (WordEdits t) words
IsMeant words t (Some word) = IsNearest (WordEdits t) words word

-- the word that is suggested for a text by a list of this form; the word of a key to sort by is only part of one
abbrev pub IsMeantBy : Form → List (Bor (List ℕ)) → List ℕ → Option (Bor (List ℕ)) → Type 0
IsMeantBy forms.SortKey words t meant = meant ≡ None
IsMeantBy form words t meant = IsMeant words t meant

abbrev pub IsJudgedByWords : WordList → List ℕ → Option Reason → Type 0
IsJudgedByWords list t None = IsTaken list t
IsJudgedByWords list t (Some (NoWord l meant)) = (l.now ≡ list) × ¬ (IsTaken list t)
    × IsMeantBy list.form list.words.items t meant
IsJudgedByWords list t (Some _) = ⊥

-- no reason unless these users lack the home directory that the path begins with
abbrev pub IsJudgedPath : Option KnownUsers → List ℕ → Option Reason → Type 0
IsJudgedPath users t None = ¬ (IsHomeless users t)
IsJudgedPath users t (Some NoHome) = IsHomeless users t
IsJudgedPath users t (Some _) = ⊥

-- no reason if the text has the shape
abbrev pub IsJudgedShape : Shape → List ℕ → Option Reason → Type 0
IsJudgedShape shape t None = HasShape shape t
IsJudgedShape shape t (Some (Misshapen s)) = (s ≡ shape) × ¬ (HasShape shape t)
IsJudgedShape shape t (Some _) = ⊥

-- ---- why a setting is wrong by its row, if it is wrong

abbrev pub IsJudgedText : Option KnownUsers → SettingKind → List ℕ → Option Reason → Type 0
IsJudgedText users kinds.Text t r = r ≡ None
IsJudgedText users kinds.Bool t r = IsJudgedBool t r
IsJudgedText users (kinds.Int low high) t r = IsJudgedWithin low high t r
IsJudgedText users kinds.BoolOrInt t r = IsJudgedBool t r
IsJudgedText users kinds.Color t r = IsJudged ColorText (OnlyFault faults.Color) t r
IsJudgedText users kinds.Path t r = IsJudgedPath users t r
IsJudgedText users (kinds.Shaped shape) t r = IsJudgedShape shape t r
IsJudgedText users (kinds.Word list) t r = IsJudgedByWords list t r

-- the grammar gives both texts the same value
abbrev pub HaveSameValue : {V : Type 0} → (List ℕ → V → Type 0) → List ℕ → List ℕ → Type 0
HaveSameValue {V} grammar t u = (v : V) × grammar t v × grammar u v

-- both texts are the same number or, if neither is a number, the same boolean
abbrev pub AreSameBoolOrInt : List ℕ → List ℕ → Type 0
AreSameBoolOrInt t u = HaveSameValue AmountText t u
    ⊎ ((¬ (IsAccepted AmountText t) × ¬ (IsAccepted AmountText u)) × HaveSameValue BooleanText t u)

abbrev pub AreSameByForm : Form → List ℕ → List ℕ → Type 0
AreSameByForm forms.BoolOrWord t u = HaveSameValue BooleanText t u
AreSameByForm forms.IntOrWord t u = HaveSameValue AmountText t u
AreSameByForm _ t u = ⊥

-- the two are the same text by the list, or neither is a word, and they are the same boolean or number by its form
abbrev pub AreSameByWords : WordList → List ℕ → List ℕ → Type 0
AreSameByWords list t u = IsSame list.ignores_case t u
    ⊎ ((¬ (HasWord list t) × ¬ (HasWord list u)) × AreSameByForm list.form t u)

-- two values of a kind mean the same
abbrev pub MeanSame : SettingKind → List ℕ → List ℕ → Type 0
MeanSame kinds.Text t u = t ≡ u
MeanSame kinds.Bool t u = HaveSameValue BooleanText t u
MeanSame (kinds.Int low high) t u = HaveSameValue AmountText t u
MeanSame kinds.BoolOrInt t u = AreSameBoolOrInt t u
MeanSame kinds.Color t u = HaveSameValue ColorText t u
MeanSame kinds.Path t u = t ≡ u
MeanSame (kinds.Shaped shape) t u = t ≡ u
MeanSame (kinds.Word list) t u = AreSameByWords list t u

-- a value that its kind takes has to mean what the row wants, if it wants one meaning
abbrev pub IsComparedTo : Option (Bor (List ℕ)) → SettingKind → List ℕ → Option Reason → Type 0
IsComparedTo None kind t r = r ≡ None
IsComparedTo (Some wanted) kind t None = MeanSame kind t wanted.now
IsComparedTo (Some wanted) kind t (Some (IsNot w)) = (w ≡ wanted) × ¬ (MeanSame kind t wanted.now)
IsComparedTo (Some wanted) kind t (Some _) = ⊥

-- why a value is wrong by its row: its kind does not take it, or the row wants another one
pub data IsJudgedByRow (users : Option KnownUsers) (row : Row) (t : List ℕ) (r : Option Reason) : Type 0 where
  refused : (reason : Reason) → IsJudgedText users row.kind t (Some reason) → r ≡ Some reason
      → IsJudgedByRow users row t r
  taken : IsJudgedText users row.kind t None → IsComparedTo row.wanted row.kind t r → IsJudgedByRow users row t r

-- a key alone is wrong if it needs a value; otherwise it means `true`
abbrev pub IsJudgedAlone : (takes_no_value : Bool) → Row → Option Reason → Type 0
IsJudgedAlone true row r = IsComparedTo row.wanted row.kind (codes "true") r
IsJudgedAlone false row r = r ≡ Some NoValue

abbrev pub HasReason : Option KnownUsers → Row → Option (List ℕ) → Option Reason → Type 0
HasReason users row None r = IsJudgedAlone row.takes_no_value row r
HasReason users row (Some t) r = IsJudgedByRow users row t r

-- A missing value is an error. What only a newer Git reads is a note, as is another spelling. What Git no
-- longer reads
-- is a warning, as is a deprecated setting or value. A wrong value is a warning if Git continues after it,
-- and otherwise an error.
abbrev pub severity_of : (goes_on : Bool) → Reason → Severity
severity_of goes_on NoValue = Error
severity_of goes_on (TooNew since) = Note
severity_of goes_on (Gone until) = Warning
severity_of goes_on (Deprecated word) = Warning
severity_of goes_on (Outdated word) = Warning
severity_of goes_on (NotCanonical canonical) = Note
severity_of goes_on (OtherCase word) = Note
severity_of goes_on _ = if goes_on then Warning else Error

-- ---- the canonical text that an accepted text should be

-- the canonical text, unless the text is already canonical
abbrev pub IsRespelled : {V : Type 0} → (List ℕ → V → Type 0) → (List ℕ → Type 0) → List ℕ → Option Reason
    → Type 0
IsRespelled grammar canonical t None = Normalizes grammar canonical t (Some t)
IsRespelled grammar canonical t (Some (NotCanonical c)) =
    Normalizes grammar canonical t (Some c.bytes) × (c.bytes ≢ t)
IsRespelled grammar canonical t (Some _) = ⊥

pub record IsRespelledBoolOrInt (t : List ℕ) (r : Option Reason) : Type 0 where
  pub number : IsAccepted AmountText t → IsRespelled IntegerText CanonicalInteger t r
  pub other : IsRefused AmountText t → IsRespelled BooleanText CanonicalBoolean t r

-- the word, if the text is the same word in another case
abbrev pub IsRespelledAs : List ℕ → Bor (List ℕ) → Option Reason → Type 0
IsRespelledAs t word None = (word.now ≡ t) ⊎ ¬ (SameWord word.now t)
IsRespelledAs t word (Some (OtherCase w)) = (w ≡ word) × (word.now ≢ t) × SameWord word.now t
IsRespelledAs t word (Some _) = ⊥

-- the canonical text of a boolean or integer, unless it is canonical; other forms have no canonical texts
abbrev pub IsRespelledByForm : Form → List ℕ → Option Reason → Type 0
IsRespelledByForm forms.BoolOrWord t r = IsRespelled BooleanText CanonicalBoolean t r
IsRespelledByForm forms.IntOrWord t r = IsRespelled IntegerText CanonicalInteger t r
IsRespelledByForm _ t r = r ≡ None

abbrev pub IsRespelledByWords : WordList → List ℕ → Option Reason → Type 0
IsRespelledByWords list t r = ((word : Bor (List ℕ)) × IsFirstWord list t word × IsRespelledAs t word r)
    ⊎ (IsNoWord list t list.words.items × IsRespelledByForm list.form t r)

-- how an accepted value should be spelled, unless it is already spelled so; a key alone is never respelled
abbrev pub HasSpelling : SettingKind → Option (List ℕ) → Option Reason → Type 0
HasSpelling kind None r = r ≡ None
HasSpelling kinds.Text (Some t) r = r ≡ None
HasSpelling kinds.Bool (Some t) r = IsRespelled BooleanText CanonicalBoolean t r
HasSpelling (kinds.Int low high) (Some t) r = IsRespelled IntegerText CanonicalInteger t r
HasSpelling kinds.BoolOrInt (Some t) r = IsRespelledBoolOrInt t r
HasSpelling kinds.Color (Some t) r = IsRespelled ColorText CanonicalColor t r
HasSpelling kinds.Path (Some t) r = r ≡ None
HasSpelling (kinds.Shaped shape) (Some t) r = r ≡ None
HasSpelling (kinds.Word list) (Some t) r = IsRespelledByWords list t r

-- ---- what is found

-- the row is not for this Git: it is for Git from a newer version on, or before a version that this Git has reached
abbrev pub IsOutside : Version → Row → Reason → Type 0
IsOutside git row (TooNew since) = (row.since ≡ Some since) × IsBefore git since
IsOutside git row (Gone until) = (row.until ≡ Some until) × ¬ (IsBefore git until) × ¬ (IsTooNew git row)
IsOutside git row _ = ⊥

-- the value means the same as this one; a key alone means `true`
abbrev pub IsOld : SettingKind → Option (List ℕ) → List ℕ → Type 0
IsOld kind None old = MeanSame kind (codes "true") old
IsOld kind (Some t) old = MeanSame kind t old

-- if canonical texts are wanted, how the value should be spelled
abbrev pub IsSpelled : (wants_canonical : Bool) → SettingKind → Option (List ℕ) → Option Reason → Type 0
IsSpelled true kind value r = HasSpelling kind value r
IsSpelled false kind value r = r ≡ None

-- what replaces a deprecated setting or, if only one value is deprecated, that value; for others, how they
-- should be spelled
abbrev pub IsRemarkBy : (instead old : Option (Bor (List ℕ))) → (wants_canonical : Bool) → SettingKind
    → Option (List ℕ)
    → Option Reason → Type 0
IsRemarkBy (Some word) None wants_canonical kind value r = r ≡ Some (Deprecated word)
IsRemarkBy (Some word) (Some old) wants_canonical kind value r =
    (IsOld kind value old.now × (r ≡ Some (Outdated word)))
    ⊎ (¬ (IsOld kind value old.now) × IsSpelled wants_canonical kind value r)
IsRemarkBy None old wants_canonical kind value r = IsSpelled wants_canonical kind value r

-- what is said of a right value, if there is anything to say
abbrev pub IsRemark : (wants_canonical : Bool) → Row → Option (List ℕ) → Option Reason → Type 0
IsRemark wants_canonical row value r = IsRemarkBy row.instead row.old wants_canonical row.kind value r

-- what a check finds for a setting, by its options, its row and its value, if it finds anything
pub data HasFinding (options : Options) (row : Row) (value : Option (List ℕ)) (r : Option Reason) : Type 0 where
  outside : (reason : Reason) → IsOutside options.git row reason → r ≡ Some reason → HasFinding options row value r
  wrong : IsOf options.git row → (reason : Reason) → HasReason options.users row value (Some reason)
      → r ≡ Some reason
      → HasFinding options row value r
  right : IsOf options.git row → HasReason options.users row value None → IsRemark options.canonical row value r
      → HasFinding options row value r

-- the same finding: canonical texts are compared by their bytes, and borrowed lists by what they hold
abbrev pub IsSameFinding : Option Reason → Option Reason → Type 0
IsSameFinding (Some (NotCanonical c)) (Some (NotCanonical d)) = c.bytes ≡ d.bytes
IsSameFinding (Some (NoWord l v)) (Some (NoWord m w)) = (l.now ≡ m.now) × (v ≡ w)
IsSameFinding a b = a ≡ b
