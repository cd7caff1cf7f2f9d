-- No two values have the same number, since each value is found again from its number.
use Rattle.std.proofs.Common.{◌≡◌, ◌≢◌, ℕ, List, [], ◌∷◌, Option, None, Some, codes, refl, sym, ap, ◌∙◌, arith}
use Rattle.std.specs.List.{slice_get}
use Rattle.std.proofs.lemmas.Option.{same_Some}
use Rattle.config_boolean.specs.declared.boolean.Boolean.{Boolean}
use Rattle.config_integer.specs.declared.suffix.Suffix.{Suffix}
use Rattle.config_text.specs.Faults.{fault_text}
use Rattle.config_text.specs.declared.errors.Fault.{Fault}
use Rattle.config_text.specs.declared.errors.Fault.TheVariants as faults
use Rattle.config_path.specs.Interpolation.{path_error_text}
use Rattle.config_path.specs.declared.interpolate.Error.{Error}
use Rattle.config_file.specs.Errors.{why_number}
use Rattle.config_file.specs.declared.errors.Why.{Why}
use Rattle.gix_config_value_c.specs.declared.status.Status.{Status}
use Rattle.gix_config_value_c.specs.declared.status.Status.TheVariants as statuses
use Rattle.gix_config_value_c.specs.Answers.{TellsApart}
use Rattle.gix_config_value_c.specs.Numbers.{status_number, kind_number, suffix_number, flag_number, fault_number}
use Rattle.gix_config_value_c.specs.Numbers.{role_number, depth_number}
use Rattle.gix_config_value_c.specs.Faults.{place_number, path_fault_number, numbered_text}

-- if each value is found again from what `f` makes of it, then `f` tells values apart
pub told_apart : {V C : Type 0} (f : V → C) (found : C → Option V) → ((v : V) → found (f v) ≡ Some v) → TellsApart f
told_apart f found again v w same = same_Some v w (sym (again v) ∙ (ap found same ∙ again w))

-- the statuses in the order of their numbers; no status has the number 11 or that of a reason, so `Ok` fills its place
abbrev all_statuses : List Status
all_statuses =
    statuses.Ok ∷ statuses.Refused ∷ statuses.Overflow ∷ statuses.NoText ∷ statuses.TooManyNames ∷ statuses.Absent
    ∷ statuses.UnknownKind ∷ statuses.UnknownFault ∷ statuses.BadSuffix ∷ statuses.BadName ∷ statuses.BadFlag
    ∷ statuses.Ok ∷ statuses.BadLengths ∷ statuses.ShortBuffer ∷ statuses.NoMemory
    ∷ statuses.Ok ∷ statuses.Ok ∷ statuses.NoInclude ∷ statuses.Ok ∷ statuses.Ok
    ∷ statuses.Ok ∷ statuses.BadDepth ∷ statuses.BadCount ∷ statuses.TooManySettings ∷ statuses.MissingKey
    ∷ statuses.MissingValue ∷ statuses.BadParameters ∷ statuses.NoKey ∷ statuses.EmptyKey ∷ statuses.NoSection
    ∷ statuses.NoKeyName ∷ statuses.BadKey ∷ statuses.KeyLineFeed ∷ statuses.BadValue ∷ statuses.BadSection
    ∷ statuses.Several ∷ statuses.Ok ∷ statuses.Asks ∷ statuses.TooManyFacts ∷ []

pub statuses_apart : TellsApart status_number
statuses_apart = told_apart status_number (λ n. slice_get all_statuses n) again where
  again : (s : Status) → slice_get all_statuses (status_number s) ≡ Some s
  again statuses.Ok = refl
  again s = refl

pub reasons_apart : (status : Status) (why : Why) → status_number status ≢ why_number why
reasons_apart status why same = grind arith

pub roles_apart : TellsApart role_number
roles_apart v w same = grind arith

pub kinds_apart : TellsApart kind_number
kinds_apart v w same = grind arith

pub suffixes_apart : TellsApart suffix_number
suffixes_apart v w same = grind arith

pub depths_apart : TellsApart depth_number
depths_apart v w same = grind arith

pub flags_apart : TellsApart flag_number
flags_apart v w same = grind arith

-- the numbers of suffixes, without that for no suffix; then the numbers of booleans
pub units_apart : TellsApart {V = Suffix} (λ s. suffix_number (Some s))
units_apart v w same = same_Some v w (suffixes_apart (Some v) (Some w) same)

pub truths_apart : TellsApart {V = Boolean} (λ v. flag_number v.0)
truths_apart v w same =
    let one = flags_apart v.0 w.0 same in
    λ i. record { 0 = one i }

pub faults_apart : TellsApart fault_number
faults_apart v w same = grind arith

pub places_apart : TellsApart place_number
places_apart v w same = grind arith

-- ---- texts

pub fault_text_found : (f : Fault) → numbered_text (fault_number f) ≡ Some (fault_text f)
fault_text_found faults.Boolean = refl
fault_text_found f = refl

pub path_text_found : (e : Error) → path_fault_number e ≢ 0
    → numbered_text (path_fault_number e) ≡ Some (path_error_text e)
path_text_found e some = grind arith

-- ---- faults of paths

abbrev path_text : Option (List ℕ) → List ℕ
path_text None = codes "no memory"
path_text (Some t) = t

path_text_told : (e : Error) → path_error_text e ≡ path_text (numbered_text (path_fault_number e))
path_text_told e = grind arith

pub path_texts_apart : (e f : Error) → path_fault_number e ≡ path_fault_number f
    → path_error_text e ≡ path_error_text f
path_texts_apart e f same =
    path_text_told e ∙ (ap (λ n. path_text (numbered_text n)) same ∙ sym (path_text_told f))

pub faults_of_texts_or_paths : (f : Fault) (e : Error) → fault_number f ≢ path_fault_number e
faults_of_texts_or_paths f e same = grind arith
