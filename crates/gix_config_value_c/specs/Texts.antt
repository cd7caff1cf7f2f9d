-- Texts of a kind that is chosen at run time, in C.
use Rattle.std.specs.Prelude.{◌≡◌, ◌⊎◌, ℕ, List, Bool, None, Some}
use Rattle.gix_config_value.specs.declared.kind.Kind.{Kind}
use Rattle.gix_config_value.specs.Kinds.{KindGrammar, KindCanonical}
use Rattle.gix_config_value.specs.Value.{IsRefused, Normalizes, Compares}
use Rattle.gix_config_value_c.specs.declared.status.Status.TheVariants as statuses
use Rattle.gix_config_value_c.specs.Buffers.{AnswersText}
use Rattle.gix_config_value_c.specs.Numbers.{kind_number, flag_number, status_number}
use Rattle.gix_config_value_c.specs.Values.{IsNoValue}

-- no kind has the number, and the status says so
abbrev pub IsUnknown : ℕ → ℕ → Type 0
IsUnknown number status = (status ≡ status_number statuses.UnknownKind) × IsNoValue kind_number number

-- `s` is the canonical text of the value that the kind with this number gives the text `t`
abbrev pub IsNormalized : ℕ → List ℕ → List ℕ → Type 0
IsNormalized number t s =
    (kind : Kind) × (number ≡ kind_number kind) × Normalizes (KindGrammar kind) (KindCanonical kind) t (Some s)

-- the kind with this number gives the text no value
abbrev pub IsRefusedBy : ℕ → List ℕ → Type 0
IsRefusedBy number t = (kind : Kind) × (number ≡ kind_number kind) × IsRefused (KindGrammar kind) t

-- the canonical text is put into the buffer, or the text is refused, or the kind is unknown
abbrev pub NormalizesInto : ℕ → List ℕ → List ℕ → List ℕ → ℕ → ℕ → ℕ → Type 0
NormalizesInto number t buffer buffer' size size' status = AnswersText (IsNormalized number t)
    (λ reason. ((reason ≡ status_number statuses.Refused) × IsRefusedBy number t) ⊎ IsUnknown number reason) buffer buffer' size size' status

-- whether both texts mean the same is put into `out`; or one of them is refused, or the kind is unknown, and
-- `out` is left alone
pub data ComparesInto (number : ℕ) (a b : List ℕ) (out out' status : ℕ) : Type 0 where
  compared : (kind : Kind) (same : Bool) → number ≡ kind_number kind
      → Compares (KindGrammar kind) a b (Some same)
      → out' ≡ flag_number same → status ≡ status_number statuses.Ok → ComparesInto number a b out out' status
  refused : (kind : Kind) → number ≡ kind_number kind
      → Compares (KindGrammar kind) a b None
      → out' ≡ out → status ≡ status_number statuses.Refused → ComparesInto number a b out out' status
  unknown : IsUnknown number status → out' ≡ out → ComparesInto number a b out out' status
