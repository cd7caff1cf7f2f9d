-- What is answered from the settings that are asked for: which bytes, and which exit status.
use Rattle.std.specs.Prelude.{◌≡◌, ◌≢◌, ℕ, Bool, true, false, if◌then◌else◌, List, [], ◌∷◌, ◌++◌, Option, Some, None, ⊤}
use Rattle.std.specs.Prelude.{unwrap_or, ◌⊎◌, codes}
use Rattle.std.specs.List.{concat, last_or}
use Rattle.config_file.specs.Listing.{IsListed}
use Rattle.config_file.specs.Settings.{value_text}
use Rattle.config_file.specs.Views.{entry_of}
use Rattle.config_file.specs.declared.scope.Scope.TheVariants as scope
use Rattle.config_file.specs.declared.settings.Setting.{Setting}
use Rattle.config_answers.specs.declared.answer.Answer.{Answer}
use Rattle.config_answers.specs.declared.answer.Answer.TheVariants.{Written, Absent, Refused, NoDefault}
use Rattle.config_answers.specs.declared.answer.Ending.{Ending}
use Rattle.config_answers.specs.declared.answer.Ending.TheVariants as ending
use Rattle.config_answers.specs.declared.line.Form.{Form}
use Rattle.config_answers.specs.declared.line.Origin.TheVariants as origin
use Rattle.config_answers.specs.declared.line.Place.{Place}
use Rattle.config_answers.specs.declared.line.Unfiled.{Unfiled}
use Rattle.config_answers.specs.declared.typed.Outcome.{Outcome}
use Rattle.config_answers.specs.declared.typed.Outcome.TheVariants as outcome
use Rattle.config_answers.specs.Lines.{line, IsPlaceOf}
use Rattle.config_answers.specs.Types.{read_text}

-- the value in a line: the text of the value as it is written, this text of its type, or none for a key alone
abbrev pub value_of : Outcome → Option (List ℕ) → List ℕ → Option (List ℕ)
value_of outcome.AsWritten value typed = Some (read_text value)
value_of outcome.Typed value typed = Some typed
value_of _ value typed = None

-- a line is written for a value: it is set, and of its type
abbrev pub HasLine : Outcome → Type 0
HasLine outcome.Missing = ⊥
HasLine outcome.Refused = ⊥
HasLine _ = ⊤

-- this is written for a value at this place and under this key
pub record IsLine (Shows : Option (List ℕ) → Outcome → List ℕ → Type 0) (form : Form) (value : Option (List ℕ))
    (place : Place) (key written : List ℕ) : Type 0 where
  pub outcome : Outcome
  pub typed : List ℕ
  pub shows : Shows value outcome typed
  pub has_line : HasLine outcome
  pub is_line : written ≡ line form place key (value_of outcome value typed)

-- this is written for a setting, at its own place and under the key as Git lists it
pub record IsLineOf (Shows : Option (List ℕ) → Outcome → List ℕ → Type 0) (unfiled : Unfiled) (form : Form)
    (setting : Setting) (written : List ℕ) : Type 0 where
  pub place : Place
  pub key : List ℕ
  pub is_place : IsPlaceOf unfiled setting place
  pub listed : IsListed (entry_of setting.entry).section (entry_of setting.entry).key key
  pub is_line : IsLine Shows form (value_text setting) place key written

-- a value has an outcome, with some text
abbrev pub Becomes : (Option (List ℕ) → Outcome → List ℕ → Type 0) → Option (List ℕ) → Outcome → Type 0
Becomes Shows value outcome = (typed : List ℕ) × Shows value outcome typed

-- the lines of settings, in order; one that counts as not set has none
pub data Lines (Shows : Option (List ℕ) → Outcome → List ℕ → Type 0) (unfiled : Unfiled) (form : Form)
    : List Setting → List (List ℕ) → Type 0 where
  nothing : Lines Shows unfiled form [] []
  written : {settings : List Setting} {lines : List (List ℕ)} {setting : Setting} {one : List ℕ}
      → Lines Shows unfiled form settings lines → IsLineOf Shows unfiled form setting one
      → Lines Shows unfiled form (settings ++ setting ∷ []) (lines ++ one ∷ [])
  missing : {settings : List Setting} {lines : List (List ℕ)} (setting : Setting)
      → Lines Shows unfiled form settings lines → Becomes Shows (value_text setting) outcome.Missing
      → Lines Shows unfiled form (settings ++ setting ∷ []) lines

-- all lines, or the last one alone
abbrev pub chosen : (all : Bool) → List (List ℕ) → List ℕ
chosen true lines = concat lines
chosen false lines = unwrap_or (last_or None lines) []

-- What is answered: the lines of the settings, or the last one; nothing if none of them has a line; and nothing
-- if the value of one is none of its type, which is the first such setting.
abbrev pub Answers : (Option (List ℕ) → Outcome → List ℕ → Type 0) → Unfiled → Form → List Setting
    → List ℕ → Answer → Type 0
Answers Shows unfiled form settings output Written = (lines : List (List ℕ)) × Lines Shows unfiled form settings lines
    × (lines ≢ []) × (output ≡ chosen form.all lines)
Answers Shows unfiled form settings output Absent = Lines Shows unfiled form settings [] × (output ≡ [])
Answers Shows unfiled form settings output (Refused setting) = (before : List Setting) × (after : List Setting)
    × (lines : List (List ℕ)) × (settings ≡ before ++ setting ∷ after) × Lines Shows unfiled form before lines
    × Becomes Shows (value_text setting) outcome.Refused × (output ≡ [])
Answers Shows unfiled form settings output NoDefault = ⊥

-- where a default is, which is no entry
abbrev pub IsPlaceOfDefault : Place → Type 0
IsPlaceOfDefault place = (place.origin ≡ origin.Command) × (place.scope ≡ scope.Command)
    × (place.file.now ≡ codes "command line") × (place.line ≡ 1)

-- what is answered in place of nothing: the line of the default under this key, if it has one
abbrev pub AnswersDefault : (Option (List ℕ) → Outcome → List ℕ → Type 0) → Form → List ℕ → List ℕ → List ℕ
    → Answer → Type 0
AnswersDefault Shows form key value output Written =
    (place : Place) × IsPlaceOfDefault place × IsLine Shows form (Some value) place key output
AnswersDefault Shows form key value output Absent = Becomes Shows (Some value) outcome.Missing × (output ≡ [])
AnswersDefault Shows form key value output NoDefault = Becomes Shows (Some value) outcome.Refused × (output ≡ [])
AnswersDefault Shows form key value output (Refused _) = ⊥

-- What is answered with this default, if there is one: what the settings give, or if none of them has a line, what the
-- default gives under this key.
abbrev pub AnswersOr : (Option (List ℕ) → Outcome → List ℕ → Type 0) → Unfiled → Form → List Setting
    → (key : List ℕ) → Option (List ℕ) → List ℕ → Answer → Type 0
AnswersOr Shows unfiled form settings key None output answer = Answers Shows unfiled form settings output answer
AnswersOr Shows unfiled form settings key (Some value) output answer =
    ((answer ≢ Absent) × Answers Shows unfiled form settings output answer)
    ⊎ (Lines Shows unfiled form settings [] × AnswersDefault Shows form key value output answer)

-- the exit status of each ending
abbrev pub status_of : Ending → ℕ
status_of ending.Done = 0
status_of ending.Absent = 1
status_of ending.NoSection = 2
status_of ending.NoFile = 3
status_of ending.NotWritten = 4
status_of ending.NotOne = 5
status_of ending.NoPattern = 6
status_of ending.Refused = 128
status_of ending.Misused = 129
status_of ending.Failed = 255

-- how a run ends after an answer: with 0, 1 or 128
abbrev pub ending_of : Answer → Ending
ending_of Written = ending.Done
ending_of Absent = ending.Absent
ending_of _ = ending.Refused

-- what becomes of the output: a line is appended if all are asked for, and else put in place of the one before
abbrev pub Puts : (Outcome → Type 0) → (List ℕ → Type 0) → (all : Bool) → List ℕ → List ℕ → Outcome → Type 0
Puts IsOne IsLine all old new outcome.Missing = (new ≡ old) × IsOne outcome.Missing
Puts IsOne IsLine all old new outcome.Refused = (new ≡ old) × IsOne outcome.Refused
Puts IsOne IsLine all old new _ =
    (written : List ℕ) × IsLine written × (new ≡ (if all then old else []) ++ written)
