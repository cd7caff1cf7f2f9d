-- The lines of settings, one by one.
use Rattle.std.proofs.Common.{◌≡◌, ◌≢◌, ◌++◌, ◌∙◌, ℕ, Bool, true, false, List, [], ◌∷◌}
use Rattle.std.proofs.Common.{Option, Some, None, refl, sym, ap, append_assoc, append-nil}
use Rattle.std.proofs.Common.{if◌then◌else◌}
use Rattle.std.specs.Prelude.{unwrap_or}
use Rattle.std.specs.List.{concat, last_or}
use Rattle.config_file.specs.Settings.{value_text}
use Rattle.config_file.specs.declared.settings.Setting.{Setting}
use Rattle.config_answers.specs.declared.answer.Answer.{Answer}
use Rattle.config_answers.specs.declared.answer.Answer.TheVariants.{Written, Absent, Refused, NoDefault}
use Rattle.config_answers.specs.declared.typed.Outcome.{Outcome}
use Rattle.config_answers.specs.declared.typed.Outcome.TheVariants as outcome
use Rattle.config_answers.specs.declared.line.Form.{Form}
use Rattle.config_answers.specs.declared.line.Unfiled.{Unfiled}
use Rattle.config_answers.specs.declared.line.Place.{Place}
use Rattle.config_answers.specs.Answers.{Becomes, HasLine, IsLine, IsLineOf, Lines, written, missing, chosen}
use Rattle.config_answers.specs.Answers.{Puts, Answers, AnswersDefault, IsPlaceOfDefault}

pub concat_next : (lines : List (List ℕ)) (one : List ℕ) → concat (lines ++ one ∷ []) ≡ concat lines ++ one
concat_next [] one = append-nil one
concat_next (x ∷ xs) one = ap (λ l. x ++ l) (concat_next xs one) ∙ sym (append_assoc x (concat xs) one)

pub last_next : (o : Option (List ℕ)) (lines : List (List ℕ)) (one : List ℕ) → last_or o (lines ++ one ∷ []) ≡ Some one
last_next o [] one = refl
last_next o (x ∷ xs) one = last_next (Some x) xs one

-- the output with one more line
pub chosen_next : (all : Bool) (lines : List (List ℕ)) (one : List ℕ)
    → (if all then chosen all lines else []) ++ one ≡ chosen all (lines ++ one ∷ [])
chosen_next true lines one = sym (concat_next lines one)
chosen_next false lines one = sym (ap (λ o. unwrap_or o []) (last_next None lines one))

pub chosen_none : (all : Bool) → chosen all [] ≡ []
chosen_none true = refl
chosen_none false = refl

pub has_line : (o : Outcome) → o ≢ outcome.Missing → o ≢ outcome.Refused → HasLine o
has_line outcome.AsWritten no_file no_value = tt
has_line outcome.Typed no_file no_value = tt
has_line outcome.Alone no_file no_value = tt
has_line outcome.Missing no_file no_value = absurd (no_file refl)
has_line outcome.Refused no_file no_value = absurd (no_value refl)

pub puts_line : (IsOne : Outcome → Type 0) (Line : List ℕ → Type 0) (all : Bool) (old new : List ℕ) (o : Outcome)
    → HasLine o → (one : List ℕ) → Line one → new ≡ (if all then old else []) ++ one
    → Puts IsOne Line all old new o
puts_line IsOne Line all old new outcome.AsWritten has one is same = (one, is, same)
puts_line IsOne Line all old new outcome.Typed has one is same = (one, is, same)
puts_line IsOne Line all old new outcome.Alone has one is same = (one, is, same)
puts_line IsOne Line all old new outcome.Missing has one is same = absurd has
puts_line IsOne Line all old new outcome.Refused has one is same = absurd has

not_empty : {X : Type 0} (xs : List X) (x : X) → xs ++ x ∷ [] ≢ []
not_empty [] x same = absurd (cc)
not_empty (y ∷ ys) x same = absurd (cc)

-- the lines of the settings so far, if none of them is refused
so_far : (Shows : Option (List ℕ) → Outcome → List ℕ → Type 0) (unfiled : Unfiled) (form : Form)
    (settings : List Setting) (output : List ℕ) (answer : Answer) → ((setting : Setting) → answer ≢ Refused setting)
    → Answers Shows unfiled form settings output answer
    → (lines : List (List ℕ)) × Lines Shows unfiled form settings lines × (output ≡ chosen form.all lines)
so_far Shows unfiled form settings output Written goes_on (lines, are, some, out) = (lines, are, out)
so_far Shows unfiled form settings output Absent goes_on (are, none) = ([], are, none ∙ sym (chosen_none form.all))
so_far Shows unfiled form settings output (Refused setting) goes_on is = absurd (goes_on setting refl)
so_far Shows unfiled form settings output NoDefault goes_on is = absurd is

-- the answer from one more setting: behind a refused one
pub later : (Shows : Option (List ℕ) → Outcome → List ℕ → Type 0) (unfiled : Unfiled) (form : Form)
    (settings : List Setting) (refused setting : Setting) (output : List ℕ)
    → Answers Shows unfiled form settings output (Refused refused)
    → Answers Shows unfiled form (settings ++ setting ∷ []) output (Refused refused)
later Shows unfiled form settings refused setting output (before, after, lines, split, are, becomes, out) = (
  before,
  after ++ setting ∷ [],
  lines,
  ap (λ all. all ++ setting ∷ []) split ∙ append_assoc before (refused ∷ after) (setting ∷ []),
  are,
  becomes,
  out,
)

-- one that counts as not set
pub missing_next : (Shows : Option (List ℕ) → Outcome → List ℕ → Type 0) (unfiled : Unfiled) (form : Form)
    (settings : List Setting) (setting : Setting) (old new : List ℕ) (answer : Answer)
    → ((refused : Setting) → answer ≢ Refused refused) → Answers Shows unfiled form settings old answer
    → (new ≡ old) × Becomes Shows (value_text setting) outcome.Missing
    → Answers Shows unfiled form (settings ++ setting ∷ []) new answer
missing_next Shows unfiled form settings setting old new Written goes_on (lines, are, some, out) (same, becomes) =
    (lines, missing setting are becomes, some, same ∙ out)
missing_next Shows unfiled form settings setting old new Absent goes_on (are, none) (same, becomes) =
    (missing setting are becomes, same ∙ none)
missing_next Shows unfiled form settings setting old new (Refused refused) goes_on is puts = absurd (goes_on refused refl)
missing_next Shows unfiled form settings setting old new NoDefault goes_on is puts = absurd is

-- one that is none of its type
pub refused_next : (Shows : Option (List ℕ) → Outcome → List ℕ → Type 0) (unfiled : Unfiled) (form : Form)
    (settings : List Setting) (setting : Setting) (old mid : List ℕ) (answer : Answer)
    → ((refused : Setting) → answer ≢ Refused refused) → Answers Shows unfiled form settings old answer
    → (mid ≡ old) × Becomes Shows (value_text setting) outcome.Refused
    → (new : List ℕ) → new ≡ [] → Answers Shows unfiled form (settings ++ setting ∷ []) new (Refused setting)
refused_next Shows unfiled form settings setting old mid answer goes_on is (same, becomes) new empty =
    let (lines, are, out) = so_far Shows unfiled form settings old answer goes_on is in
    (settings, [], lines, refl, are, becomes, empty)

-- one that has a line
line_next : (Shows : Option (List ℕ) → Outcome → List ℕ → Type 0) (unfiled : Unfiled) (form : Form)
    (settings : List Setting) (setting : Setting) (old new : List ℕ) (answer : Answer)
    → ((refused : Setting) → answer ≢ Refused refused) → Answers Shows unfiled form settings old answer
    → (one : List ℕ) × IsLineOf Shows unfiled form setting one × (new ≡ (if form.all then old else []) ++ one)
    → Answers Shows unfiled form (settings ++ setting ∷ []) new Written
line_next Shows unfiled form settings setting old new answer goes_on is (one, line, same) =
    let (lines, are, out) = so_far Shows unfiled form settings old answer goes_on is in (
      lines ++ one ∷ [],
      written are line,
      not_empty lines one,
      same ∙ ap (λ o. (if form.all then o else []) ++ one) out ∙ chosen_next form.all lines one,
    )

pub written_next : (Shows : Option (List ℕ) → Outcome → List ℕ → Type 0) (unfiled : Unfiled) (form : Form)
    (settings : List Setting) (setting : Setting) (old new : List ℕ) (answer : Answer) (o : Outcome)
    → o ≢ outcome.Missing → o ≢ outcome.Refused
    → ((refused : Setting) → answer ≢ Refused refused) → Answers Shows unfiled form settings old answer
    → Puts (Becomes Shows (value_text setting)) (IsLineOf Shows unfiled form setting) form.all old new o
    → Answers Shows unfiled form (settings ++ setting ∷ []) new Written
written_next Shows unfiled form settings setting old new answer outcome.AsWritten some no_value goes_on is puts =
    line_next Shows unfiled form settings setting old new answer goes_on is puts
written_next Shows unfiled form settings setting old new answer outcome.Typed some no_value goes_on is puts =
    line_next Shows unfiled form settings setting old new answer goes_on is puts
written_next Shows unfiled form settings setting old new answer outcome.Alone some no_value goes_on is puts =
    line_next Shows unfiled form settings setting old new answer goes_on is puts
written_next Shows unfiled form settings setting old new answer outcome.Missing some no_value goes_on is puts =
    absurd (some refl)
written_next Shows unfiled form settings setting old new answer outcome.Refused some no_value goes_on is puts =
    absurd (no_value refl)

-- the answer that the outcome of a default gives
abbrev pub IsAnswerOf : Outcome → Answer → Type 0
IsAnswerOf outcome.Missing answer = answer ≡ Absent
IsAnswerOf outcome.Refused answer = answer ≡ NoDefault
IsAnswerOf _ answer = answer ≡ Written

first_line : (all : Bool) (old new one : List ℕ) → old ≡ [] → new ≡ (if all then old else []) ++ one → new ≡ one
first_line true old new one none same = rw none at same
first_line false old new one none same = same

default_written : (Shows : Option (List ℕ) → Outcome → List ℕ → Type 0) (form : Form) (key value old new : List ℕ)
    (place : Place) (answer : Answer) → IsPlaceOfDefault place → old ≡ [] → answer ≡ Written
    → (one : List ℕ) × IsLine Shows form (Some value) place key one × (new ≡ (if form.all then old else []) ++ one)
    → AnswersDefault Shows form key value new answer
default_written Shows form key value old new place answer at none is (one, line, same) =
    rw is (place, at, rw (first_line form.all old new one none same) line)

pub default_answer : (Shows : Option (List ℕ) → Outcome → List ℕ → Type 0) (form : Form) (key value old new : List ℕ)
    (place : Place) (answer : Answer) (o : Outcome) → IsPlaceOfDefault place → old ≡ [] → IsAnswerOf o answer
    → Puts (Becomes Shows (Some value)) (IsLine Shows form (Some value) place key) form.all old new o
    → AnswersDefault Shows form key value new answer
default_answer Shows form key value old new place answer outcome.AsWritten at none is puts =
    default_written Shows form key value old new place answer at none is puts
default_answer Shows form key value old new place answer outcome.Typed at none is puts =
    default_written Shows form key value old new place answer at none is puts
default_answer Shows form key value old new place answer outcome.Alone at none is puts =
    default_written Shows form key value old new place answer at none is puts
default_answer Shows form key value old new place answer outcome.Missing at none is (same, becomes) =
    rw is (becomes, same ∙ none)
default_answer Shows form key value old new place answer outcome.Refused at none is (same, becomes) =
    rw is (becomes, same ∙ none)

pub other_answer : (o : Outcome) (answer : Answer) → o ≢ outcome.Missing → o ≢ outcome.Refused → answer ≡ Written
    → IsAnswerOf o answer
other_answer outcome.AsWritten answer no_file no_value is = is
other_answer outcome.Typed answer no_file no_value is = is
other_answer outcome.Alone answer no_file no_value is = is
other_answer outcome.Missing answer no_file no_value is = absurd (no_file refl)
other_answer outcome.Refused answer no_file no_value is = absurd (no_value refl)
