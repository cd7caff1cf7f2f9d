-- What the readers of a kind return for a borrowed or an owned input: the value that the grammar gives the
-- bytes of the input. If it gives no value, they return an error with the fault and, except in `ReadsFault`,
-- the whole input.
--
-- The parameter `refusal` says which texts are refused with which faults.
use Rattle.std.specs.Prelude.{◌≡◌, ℕ, List, Bool, IsTrue, Result, Ok, Err}
use Rattle.bstr.specs.declared.bstr.BStr.{BStr}
use Rattle.bstr.specs.BStr.{bstr_bytes}
use Rattle.config_text.specs.declared.errors.Error.{Error}
use Rattle.config_text.specs.declared.errors.Fault.{Fault}
use Rattle.config_text.specs.declared.errors.Returned.{Returned}
use Rattle.config_text.specs.Value.{IsRefused}

-- the value that the grammar gives the text; or, if it gives no value, an error for which `refusal` holds
abbrev pub ReadsOr : {V E : Type 0} → (List ℕ → V → Type 0) → (E → Type 0) → List ℕ → Result V E → Type 0
ReadsOr grammar refusal t (Ok v) = grammar t v
ReadsOr grammar refusal t (Err e) = refusal e × IsRefused grammar t

-- the `refusal` of a kind that has only this one fault
abbrev pub OnlyFault : Fault → List ℕ → Fault → Type 0
OnlyFault fault t f = f ≡ fault

-- what a reader of a text returns if its error is the fault alone
abbrev pub ReadsFault : {V : Type 0} → (List ℕ → V → Type 0) → (List ℕ → Fault → Type 0) → List ℕ
    → Result V Fault → Type 0
ReadsFault grammar refusal t r = ReadsOr grammar (refusal t) t r

-- what a reader of a borrowed byte string returns: an error has the fault and the input
abbrev pub ReadsBytes : {V : Type 0} → (List ℕ → V → Type 0) → (List ℕ → Fault → Type 0) → BStr
    → Result V Error → Type 0
ReadsBytes grammar refusal s r =
    ReadsOr grammar (λ e. refusal (bstr_bytes s) e.fault × (e.input ≡ s)) (bstr_bytes s) r

-- what a reader of a borrowed text returns: an error has the fault and the bytes of the text
abbrev pub ReadsText : {V : Type 0} → (List ℕ → V → Type 0) → (List ℕ → Fault → Type 0) → List ℕ
    → Result V Error → Type 0
ReadsText grammar refusal t r = ReadsOr grammar (λ e. refusal t e.fault × (bstr_bytes e.input ≡ t)) t r

-- what a reader of an owned input with these bytes returns: an error has the fault and hands the input back
abbrev pub ReadsOwned : {V I : Type 0} → (List ℕ → V → Type 0) → (List ℕ → Fault → Type 0) → List ℕ → I
    → Result V (Returned I) → Type 0
ReadsOwned grammar refusal t s r = ReadsOr grammar (λ e. refusal t e.fault × (e.input ≡ s)) t r

-- two errors with the same fault, and with inputs of the same bytes
abbrev pub IsSameError : Error → Error → Type 0
IsSameError e f = (e.fault ≡ f.fault) × (bstr_bytes e.input ≡ bstr_bytes f.input)

-- two errors with the same fault, and with inputs that are equal by `eq`
abbrev pub IsSameReturned : {I : Type 0} → (I → I → Bool) → Returned I → Returned I → Type 0
IsSameReturned eq e f = (e.fault ≡ f.fault) × IsTrue (eq e.input f.input)
