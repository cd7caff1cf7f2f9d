-- What the calls make of the values that C passes.
use Rattle.std.specs.Prelude.{◌≡◌, ◌≢◌, ℕ, ℤ, List}
use Rattle.config_integer.specs.declared.integer.Integer.{Integer}
use Rattle.gix_config_value.specs.Integer.{product}
use Rattle.gix_config_value.specs.Numerals.{IsInI64}
use Rattle.gix_config_value_c.specs.declared.status.Status.{Status}
use Rattle.gix_config_value_c.specs.declared.status.Status.TheVariants as statuses
use Rattle.gix_config_value_c.specs.Numbers.{status_number}
use Rattle.gix_config_value_c.specs.declared.structs.GcvInteger.{GcvInteger}
use Rattle.gix_config_value_c.specs.Buffers.{AnswersText}
use Rattle.gix_config_value_c.specs.Structs.{integer_struct}

-- the call returns this status, and leaves `out` alone
abbrev pub LeavesAlone : {C : Type 0} → Status → C → C → ℕ → Type 0
LeavesAlone said out out' status = (out' ≡ out) × (status ≡ status_number said)

-- `c` represents no value
abbrev pub IsNoValue : {V C : Type 0} → (V → C) → C → Type 0
IsNoValue {V} struct c = (v : V) → c ≢ struct v

-- the text is the one that the value `c` represents is shown as
abbrev pub IsShownAs : {V C : Type 0} → (V → C) → (V → List ℕ) → C → List ℕ → Type 0
IsShownAs {V} struct shown c text = (v : V) × (c ≡ struct v) × (text ≡ shown v)

-- the shown text is put into the buffer, or `c` represents no value and the status is `bad`
abbrev pub Shows : {V C : Type 0} → (V → C) → (V → List ℕ) → Status → C → List ℕ → List ℕ → ℕ → ℕ → ℕ → Type 0
Shows struct shown bad c buffer buffer' size size' status = AnswersText (IsShownAs struct shown c)
    (λ reason. (reason ≡ status_number bad) × IsNoValue struct c) buffer buffer' size size' status

-- the product is put into `out`; or it is out of range, or `c` represents no integer, and `out` is left alone
pub data Multiplies (c : GcvInteger) (out out' : ℤ) (status : ℕ) : Type 0 where
  multiplied : (v : Integer) → c ≡ integer_struct v → IsInI64 (product v) → out' ≡ product v → status ≡ status_number statuses.Ok
      → Multiplies c out out' status
  overflow : (v : Integer) → c ≡ integer_struct v → ¬ (IsInI64 (product v))
      → LeavesAlone statuses.Overflow out out' status
      → Multiplies c out out' status
  bad_suffix : IsNoValue integer_struct c → LeavesAlone statuses.BadSuffix out out' status
      → Multiplies c out out' status
