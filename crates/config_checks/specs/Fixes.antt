-- Which change of an entry mends its finding, and which changes are safe.
use Rattle.std.specs.Prelude.{◌≡◌, ◌≤◌, ◌&&◌, ◌==◌, not, ⊤, ℕ, Bool, false, List, ◌++◌, codes, length}
use Rattle.std.specs.Prelude.{reverse, Option, None, Some}
use Rattle.std.specs.Char.{is_ascii_digit}
use Rattle.std.specs.List.{list_any}
use denote.Ref.{Bor}
use Rattle.config_text.specs.SameWord.{SameWord}
use Rattle.config_file.specs.Key.{Key, IsCut}
use Rattle.config_checks.specs.declared.code.Code.{Code}
use Rattle.config_checks.specs.declared.code.Code.TheVariants as kind
use Rattle.config_checks.specs.declared.fix.Fix.{Fix}
use Rattle.config_checks.specs.declared.fix.Fix.TheVariants.{Name, Value}
use Rattle.config_checks.specs.declared.fix.Safety.{Safety}
use Rattle.config_checks.specs.declared.fix.Safety.TheVariants.{Safe, Unsafe}
use Rattle.config_checks.specs.declared.kind.SettingKind.{SettingKind}
use Rattle.config_checks.specs.declared.kind.SettingKind.TheVariants as kinds
use Rattle.config_checks.specs.declared.options.Options.{Options}
use Rattle.config_checks.specs.declared.row.Row.{Row}
use Rattle.config_checks.specs.declared.setting.Setting.{Setting}
use Rattle.config_checks.specs.declared.suggestion.UnknownKey.{UnknownKey}
use Rattle.config_checks.specs.Findings.{Finding}
use Rattle.config_checks.specs.Nearest.{Edits}
use Rattle.config_checks.specs.Reasons.{HasFinding, IsMeant}
use Rattle.config_checks.specs.Report.{key_meant}
use Rattle.config_checks.specs.Rows.{Decides}
use Rattle.config_checks.specs.Settings.{value_of}
use Rattle.config_checks.specs.Suggestions.{IsUnknownKey}

-- a row decides about the key, and has no finding for this value
pub record IsClean (rows : List Row) (options : Options) (key : List ℕ) (value : Option (List ℕ)) : Type 0 where
  pub row : Row
  pub decides : Decides rows key row
  pub clean : HasFinding options row value None

-- no other word of the kind is as near to the value: the search from the last word to the first finds the same
abbrev pub IsOnlyMeant : SettingKind → Option (List ℕ) → List ℕ → Type 0
IsOnlyMeant (kinds.Word list) (Some t) word =
    (last : Bor (List ℕ)) → IsMeant (reverse list.words.items) t (Some last) → last.now ≡ word
IsOnlyMeant kind value word = ⊤

-- with this value the setting has no finding, and if words are meant, this one alone is
pub record MendsValue (rows : List Row) (options : Options) (setting : Setting) (code : Code)
    (new : List ℕ) : Type 0 where
  pub clean : IsClean rows options setting.key.items (Some new)
  pub only : code ≡ kind.NotAWord → IsOnlyMeant clean.row.kind (value_of setting) new

-- the other key differs from the key in its last part alone, which is this name
pub record IsRenamed (key other name : List ℕ) : Type 0 where
  pub from : Key
  pub to : Key
  pub is : IsCut key from
  pub becomes : IsCut other to
  pub section : SameWord from.section to.section
  pub subsection : from.subsection ≡ to.subsection
  pub last : to.name ≡ name

-- no other key is suggested for the unknown key by these rows
abbrev pub IsOnlyKey : List Row → (unknown key : List ℕ) → Type 0
IsOnlyKey rows unknown key = (k : UnknownKey) → IsUnknownKey rows unknown k → key_meant k ≡ Some key

-- with this key the setting has no finding, and the search from the last row to the first finds no other key
pub record MendsKey (rows : List Row) (options : Options) (setting : Setting) (key : List ℕ) : Type 0 where
  pub clean : IsClean rows options key (value_of setting)
  pub only : IsOnlyKey (reverse rows) setting.key.items key

-- the finding suggests the change, and the changed setting has no finding
abbrev pub Mends : List Row → Options → Setting → Finding → Fix → Type 0
Mends rows options setting f (Value new) =
    (f.suggested_value ≡ Some new.now) × MendsValue rows options setting f.code new.now
Mends rows options setting f (Name name) = (key : List ℕ) × (f.suggested_key ≡ Some key)
    × (f.suggested_value ≡ None)
    × (f.code ≡ kind.UnknownKey) × IsRenamed setting.key.items key name.now × MendsKey rows options setting key

-- a digit of the first text is not in the second one
abbrev pub lacks_digit : List ℕ → List ℕ → Bool
lacks_digit text other = list_any (λ b. is_ascii_digit b && not (list_any (λ c. c == b) other)) text

-- One typing error at most leads from one text to the other: a byte less, more or other, or two in the wrong
-- order. The case
-- of letters is none, no digit is taken for another one, a text of fewer than four bytes has too many
-- neighbors, and an `s`
-- at the end makes another word.
pub record IsTypingError (was now : List ℕ) : Type 0 where
  pub edits : ℕ
  pub are : Edits now was edits
  pub one : edits ≤ 1
  pub long : 4 ≤ length now
  pub not_several : ¬ (SameWord (was ++ codes "s") now)
  pub not_one : ¬ (SameWord (now ++ codes "s") was)
  pub kept : lacks_digit was now ≡ false
  pub old : lacks_digit now was ≡ false

-- the new value means the same as the old one, or a row asks for it, or the old one is a typing error of it
pub data IsSafeValue (setting : Setting) (code : Code) (new : List ℕ) : Type 0 where
  spelled : code ≡ kind.NotCanonical → IsSafeValue setting code new
  asked : code ≡ kind.OtherValue → IsSafeValue setting code new
  mistyped : (value : List ℕ) → value_of setting ≡ Some value → IsTypingError value new
      → IsSafeValue setting code new

-- the last part of the key is a typing error of the new one
pub record IsSafeName (setting : Setting) (name : List ℕ) : Type 0 where
  pub key : Key
  pub is : IsCut setting.key.items key
  pub mistyped : IsTypingError key.name name

-- the change of a setting with a finding of this code is safe: it undoes one typing error, or writes what was
-- asked for
abbrev pub IsSafe : Setting → Code → Fix → Type 0
IsSafe setting code (Value new) = IsSafeValue setting code new.now
IsSafe setting code (Name name) = IsSafeName setting name.now

-- the change is as safe as this says
abbrev pub HasSafety : Setting → Code → Fix → Safety → Type 0
HasSafety setting code fix Safe = IsSafe setting code fix
HasSafety setting code fix Unsafe = ¬ (IsSafe setting code fix)
