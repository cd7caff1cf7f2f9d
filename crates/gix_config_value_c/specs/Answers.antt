-- What it means that a call has one answer, and that numbers and structs tell values apart.
use Rattle.std.specs.Prelude.{◌≡◌, ℕ}

-- no two values have the same number or struct in C
abbrev pub TellsApart : {V C : Type 0} → (V → C) → Type 0
TellsApart {V} f = (v w : V) → f v ≡ f w → v ≡ w

-- from the same input, and over the same `out`, a call leaves the same in `out` and returns the same status
abbrev pub HasOneResult : {C : Type 0} → (C → C → ℕ → Type 0) → Type 0
HasOneResult {C} call = (out first second : C) (status other : ℕ)
    → call out first status → call out second other → (first ≡ second) × (status ≡ other)

-- as `HasOneResult` says, but of a call that writes into `out` and `fault`, or into a buffer and its length
abbrev pub HasOneAnswer : {C : Type 0} → (C → C → ℕ → ℕ → ℕ → Type 0) → Type 0
HasOneAnswer {C} call = (out first second : C) (number one two status other : ℕ)
    → call out first number one status → call out second number two other
    → (first ≡ second) × (one ≡ two) × (status ≡ other)
