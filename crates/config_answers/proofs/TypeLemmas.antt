-- Values of types.
use Rattle.std.proofs.Common.{◌≡◌, ℕ, Bool, true, List, refl, inl}
use Rattle.std.specs.Prelude.{Result, Ok, Err, IfOk}
use Rattle.std.specs.Result.{is_ok}
use Rattle.config_boolean.specs.Boolean.{BooleanText}
use Rattle.config_path.specs.Interpolation.{refusal}
use Rattle.config_path.specs.declared.interpolate.Error.{Error}
use Rattle.config_path.specs.declared.interpolate.Error.TheVariants.{PathMissing, InstallDirMissing, HomeMissing}
use Rattle.config_path.specs.declared.interpolate.Error.TheVariants.{LookupMissing, UserNotFound, IllFormed, Memory}
use Rattle.config_text.specs.Refusals.{ReadsOr}
use Rattle.config_text.specs.Value.{IsAccepted}
use Rattle.gix_config_value.specs.declared.kind.Kind.TheVariants as kinds
use Rattle.config_answers.specs.Types.{BecomesPath, IsCanonical, Writes}
use Rattle.config_answers.specs.declared.typed.Outcome.{Outcome}
use Rattle.config_answers.specs.declared.typed.Outcome.TheVariants.{Refused}
use Rattle.config_answers.specs.declared.typed.Shown.TheVariants as shown

pub boolean_or_text : {E : Type 0} (result : Result Outcome E) (value typed : List ℕ) → IsAccepted BooleanText value
    → IfOk result (λ o. IsCanonical kinds.Boolean value o typed)
    → IfOk result (λ o. Writes shown.BooleanOrText value o typed)
boolean_or_text (Ok o) value typed accepted is = inl (accepted, is)
boolean_or_text (Err e) value typed accepted is = tt

pub refused_path : (is_there : List ℕ → Bool → Type 0) (is_optional : Bool) (typed : List ℕ) (e : Error)
    → BecomesPath is_there is_optional (refusal e) Refused typed
refused_path is_there is_optional typed PathMissing = refl
refused_path is_there is_optional typed InstallDirMissing = refl
refused_path is_there is_optional typed HomeMissing = refl
refused_path is_there is_optional typed LookupMissing = refl
refused_path is_there is_optional typed UserNotFound = refl
refused_path is_there is_optional typed (IllFormed place input) = refl
refused_path is_there is_optional typed (Memory error) = refl

pub accepted_read : {V E : Type 0} (grammar : List ℕ → V → Type 0) (refusal : E → Type 0) (text : List ℕ)
    (result : Result V E) → is_ok result ≡ true → ReadsOr grammar refusal text result → IsAccepted grammar text
accepted_read grammar refusal text (Ok v) is reads = (v, reads)
accepted_read grammar refusal text (Err e) is reads = cc
