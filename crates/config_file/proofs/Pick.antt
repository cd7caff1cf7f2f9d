-- A choice by two tests, and the cases of a test and of an option.
use Rattle.std.proofs.Common.{◌≡◌, ◌==◌, ℕ, Bool, true, false, if◌then◌else◌, ◌⊎◌, inl, inr, refl, Option}
use Rattle.std.proofs.Common.{Some, None, eqb-true, ◌≢◌, arith, List, [], ◌∷◌}
use Rattle.std.proofs.lemmas.Bool.Decides.{nat_tests}
use Rattle.std.proofs.lemmas.Bool.{eqb-false}
use Rattle.config_file.specs.Bytes.{IsAtLineEnd}

-- a test passes or fails, and an option has a value or none; both compute if the bytes are known
abbrev pub cases : (b : Bool) → (b ≡ true) ⊎ (b ≡ false)
cases true = inl refl
cases false = inr refl

abbrev pub option_cases : {T : Type 0} (o : Option T) → ((x : T) × (o ≡ Some x)) ⊎ (o ≡ None)
option_cases None = inr refl
option_cases (Some x) = inl (x, refl)

-- a claim holds or does not, which computes
abbrev pub Decided : Type 0 → Type 0
Decided P = P ⊎ (P → ⊥)

abbrev pub equal : (a b : ℕ) → Decided (a ≡ b)
equal a b = elim (cases (a == b)) [ inl is ↦ inl (eqb-true a b is) | inr off ↦ inr (eqb-false a b off) ]

pub test_false : (b c : ℕ) → b ≢ c → (b == c) ≡ false
test_false b c other = grind (arith, nat_tests)

abbrev pub both : {P Q : Type 0} → Decided P → Decided Q → Decided (P × Q)
both (inl p) (inl q) = inl (p, q)
both (inl p) (inr none) = inr (λ h. none h.1)
both (inr none) q = inr (λ h. none h.0)

abbrev pub either : {P Q : Type 0} → Decided P → Decided Q → Decided (P ⊎ Q)
either (inl p) q = inl (inl p)
either (inr none) (inl q) = inl (inr q)
either (inr none) (inr neither) = inr (λ h. elim h [ inl p ↦ none p | inr q ↦ neither q ])

-- one of two values, by whether the claim holds
abbrev pub choose : {P T : Type 0} → Decided P → T → T → T
choose (inl is) a b = a
choose (inr none) a b = b

pub chosen : {P T : Type 0} (d : Decided P) (a b : T) → P → choose d a b ≡ a
chosen (inl is) a b p = refl
chosen (inr none) a b p = absurd (none p)

pub not_chosen : {P T : Type 0} (d : Decided P) (a b : T) → (P → ⊥) → choose d a b ≡ b
not_chosen (inl is) a b off = absurd (off is)
not_chosen (inr none) a b off = refl

abbrev pub line_end_decided : (rest : List ℕ) → Decided (IsAtLineEnd rest)
line_end_decided [] = inl tt
line_end_decided (a ∷ []) = equal a 10
line_end_decided (a ∷ b ∷ rest) = either (equal a 10) (both (equal a 13) (equal b 10))

abbrev pub pick : {T : Type 0} → Bool → Bool → T → T → T → T
pick x y a b c = if x then a else if y then b else c

pub pick_first : {T : Type 0} (x y : Bool) (a b c : T) → x ≡ true → pick x y a b c ≡ a
pick_first x y a b c e = rw e

pub pick_third : {T : Type 0} (x y : Bool) (a b c : T) → x ≡ false → y ≡ false → pick x y a b c ≡ c
pick_third x y a b c e f = rw (e, f)
