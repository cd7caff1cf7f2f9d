-- What is picked from a list, one by one.
use Rattle.std.proofs.Common.{◌≡◌, ◌≤◌, ◌<◌, ◌+◌, ◌++◌, ◌∙◌, ◌↔◌, ◌⊎◌, inl, inr, ℕ, Bool, true, false, List}
use Rattle.std.proofs.Common.{[], ◌∷◌, Some, length, take, IsTrue, ap, arith, zero, suc, map, Contains}
use Rattle.std.proofs.lemmas.List.{map-append, take_all, get_or-map, length-map}
use Rattle.std.proofs.lemmas.List.Elements.{Contains-push_cases}
use Rattle.std.specs.List.{slice_get}
use Rattle.std.proofs.lemmas.Option.{get_or_from_slice_get}
use Rattle.std.proofs.Math.Seq.{take-suc}
use Rattle.config_file.specs.Settings.{Picks, none, takes, leaves}
use Rattle.config_file.proofs.Patterns.{no_match}

pub picks_more : {X : Type 0} {P : X → Type 0} {all picked : List X} (x : X) → P x → Picks P all picked
    → Picks P (all ++ x ∷ []) (picked ++ x ∷ [])
picks_more x is none = takes is none
picks_more x is (takes h rest) = takes h (picks_more x is rest)
picks_more x is (leaves l rest) = leaves l (picks_more x is rest)

pub picks_same : {X : Type 0} {P : X → Type 0} {all picked : List X} (x : X) → ¬ (P x) → Picks P all picked
    → Picks P (all ++ x ∷ []) picked
picks_same x not none = leaves not none
picks_same x not (takes h rest) = takes h (picks_same x not rest)
picks_same x not (leaves l rest) = leaves l (picks_same x not rest)

-- the first elements and the next one
pub take_next : {X : Type 0} (xs : List X) (i : ℕ) (x : X) → slice_get xs i ≡ Some x → i < length xs
    → take (i + 1) xs ≡ take i xs ++ x ∷ []
take_next xs i x at within =
    let one : i + 1 ≡ suc i = omega arith in
    ap (λ n. take n xs) one ∙ take-suc xs i x within
    ∙ ap (λ s. take i xs ++ s ∷ []) (get_or_from_slice_get xs i x x at)

pub picks_next : {X : Type 0} {P : X → Type 0} {picked : List X} (all : List X) (i : ℕ) (x : X) (next : List X) (b : Bool)
    → slice_get all i ≡ Some x → i < length all → (IsTrue b ↔ P x)
    → ((b ≡ true) × (next ≡ picked ++ x ∷ [])) ⊎ ((b ≡ false) × (next ≡ picked))
    → Picks P (take i all) picked → Picks P (take (i + 1) all) next
picks_next all i x next b at within holds (inl is) before =
    rw (take_next all i x at within, is.1) (picks_more x (holds.0 is.0) before)
picks_next all i x next b at within holds (inr is) before =
    rw (take_next all i x at within, is.1) (picks_same x (no_match b is.0 holds) before)

-- this is one of the elements
abbrev pub In : {X : Type 0} → List X → X → Type 0
In [] x = ⊥
In (y ∷ ys) x = (y ≡ x) ⊎ In ys x

pub in_of : {X : Type 0} (xs : List X) (x : X) → Contains xs x → In xs x
in_of [] x (k, within, is) = absurd (omega (arith, within))
in_of (y ∷ ys) x (zero, within, is) = inl is
in_of (y ∷ ys) x (suc k, within, is) = inr (in_of ys x (k, omega (arith, within), is))

pub contains_of : {X : Type 0} (xs : List X) (x : X) → In xs x → Contains xs x
contains_of [] x is = absurd is
contains_of (y ∷ ys) x (inl is) = (0, omega arith, is)
contains_of (y ∷ ys) x (inr is) =
    let (k, within, at) = contains_of ys x is in
    (suc k, omega (arith, within), at)

-- searched one by one, a value is found here
pub among_here : {X Y : Type 0} (f : X → Y) (xs : List X) (i : ℕ) (x : X) (y : Y) → slice_get xs i ≡ Some x
    → i < length xs
    → f x ≡ y → Contains (map f xs) y
among_here f xs i x y at within is =
    (i, simp length-map within, get_or-map f xs i x y within ∙ ap f (get_or_from_slice_get xs i x x at) ∙ is)

-- it is not among the first, nor is it this one
pub among_no_more : {X Y : Type 0} (f : X → Y) (xs : List X) (i : ℕ) (x : X) (y : Y) → slice_get xs i ≡ Some x
    → i < length xs → ¬ (f x ≡ y) → ¬ (Contains (map f (take i xs)) y)
    → ¬ (Contains (map f (take (i + 1) xs)) y)
among_no_more f xs i x y at within other before has =
    let split : map f (take (i + 1) xs) ≡ map f (take i xs) ++ f x ∷ [] =
    ap (map f) (take_next xs i x at within) ∙ map-append f (take i xs) (x ∷ []) in
    elim (Contains-push_cases (map f (take i xs)) (f x) y (rw split at has)) [ inl is ↦ before is | inr is ↦ other is ]

pub among_none : {X Y : Type 0} (f : X → Y) (xs : List X) (i : ℕ) (y : Y) → length xs ≤ i
    → ¬ (Contains (map f (take i xs)) y) → ¬ (Contains (map f xs) y)
among_none f xs i y past before = rw (take_all i xs past) at before
