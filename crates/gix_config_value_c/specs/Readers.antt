-- What a reader returns and writes in C.
use Rattle.std.specs.Prelude.{◌≡◌, ℕ, List}
use Rattle.config_text.specs.declared.errors.Fault.{Fault}
use Rattle.gix_config_value.specs.Value.{IsRefused}
use Rattle.gix_config_value_c.specs.declared.status.Status.TheVariants as statuses
use Rattle.gix_config_value_c.specs.Numbers.{fault_number, status_number}

-- the number of a fault with which a text is refused
abbrev pub Faults : (List ℕ → Fault → Type 0) → List ℕ → ℕ → Type 0
Faults refusal t number = (f : Fault) × refusal t f × (number ≡ fault_number f)

-- no fault: the number is 0
abbrev pub NoFault : List ℕ → ℕ → Type 0
NoFault t number = number ≡ 0

-- the struct of the value that the grammar gives the text is put into `out`; or the grammar gives the text no
-- value, and the number of a fault is put into `fault`. The other one is left alone.
pub data ReadsInto {V C : Type 0} (struct : V → C) (grammar : List ℕ → V → Type 0) (faults : List ℕ → ℕ → Type 0) (t : List ℕ)
    (out out' : C) (fault fault' status : ℕ) : Type 0 where
  read : (v : V) → grammar t v → out' ≡ struct v → fault' ≡ fault → status ≡ status_number statuses.Ok
      → ReadsInto struct grammar faults t out out' fault fault' status
  refused : IsRefused grammar t → faults t fault' → out' ≡ out → status ≡ status_number statuses.Refused
      → ReadsInto struct grammar faults t out out' fault fault' status
