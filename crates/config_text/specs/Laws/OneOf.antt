-- The elements of mapped, joined and flattened lists, and facts about all elements of a list.
use Rattle.std.proofs.Common.{ℕ, subst, ◌≡◌, ◌⊎◌, Bool, true, inl, inr, List, [], ◌∷◌, ◌++◌, map, flat_map}
use Rattle.std.proofs.Common.{refl, ap, ◌∙◌}
use Rattle.std.specs.List.{list_all}
use Rattle.std.proofs.lemmas.Bool.{and_parts}
use Rattle.config_text.specs.OneOf.{OneOf}
use Rattle.config_text.specs.Value.{IsAccepted, IsRefused}
use Rattle.config_text.specs.Laws.Value.{Told}

pub OneOf-map : {X Y : Type 0} (f : X → Y) (xs : List X) (x : X) → OneOf xs x → OneOf (map f xs) (f x)
OneOf-map f [] x h = absurd h
OneOf-map f (y ∷ ys) x (inl e) = inl (ap f e)
OneOf-map f (y ∷ ys) x (inr h) = inr (OneOf-map f ys x h)

pub OneOf-from_map : {X Y : Type 0} (f : X → Y) (xs : List X) (y : Y) → OneOf (map f xs) y
    → (x : X) × OneOf xs x × (y ≡ f x)
OneOf-from_map f [] y h = absurd h
OneOf-from_map f (x ∷ xs) y (inl e) = (x, inl refl, e)
OneOf-from_map f (x ∷ xs) y (inr h) = let r = OneOf-from_map f xs y h in (r.0, inr r.1, r.2)

pub OneOf-front : {X : Type 0} (xs ys : List X) (x : X) → OneOf xs x → OneOf (xs ++ ys) x
OneOf-front [] ys x h = absurd h
OneOf-front (z ∷ zs) ys x (inl e) = inl e
OneOf-front (z ∷ zs) ys x (inr h) = inr (OneOf-front zs ys x h)

pub OneOf-back : {X : Type 0} (xs ys : List X) (x : X) → OneOf ys x → OneOf (xs ++ ys) x
OneOf-back [] ys x h = h
OneOf-back (z ∷ zs) ys x h = inr (OneOf-back zs ys x h)

pub OneOf-from_append : {X : Type 0} (xs ys : List X) (x : X) → OneOf (xs ++ ys) x → OneOf xs x ⊎ OneOf ys x
OneOf-from_append [] ys x h = inr h
OneOf-from_append (z ∷ zs) ys x (inl e) = inl (inl e)
OneOf-from_append (z ∷ zs) ys x (inr h) =
    elim (OneOf-from_append zs ys x h) [ inl a ↦ inl (inr a) | inr b ↦ inr b ]

pub OneOf-flat_map : {X Y : Type 0} (f : X → List Y) (xs : List X) (x : X) (y : Y) → OneOf xs x
    → OneOf (f x) y → OneOf (flat_map f xs) y
OneOf-flat_map f [] x y h k = absurd h
OneOf-flat_map f (z ∷ zs) x y (inl e) k = OneOf-front (f z) (flat_map f zs) y (rw (← e) k)
OneOf-flat_map f (z ∷ zs) x y (inr h) k = OneOf-back (f z) (flat_map f zs) y (OneOf-flat_map f zs x y h k)

pub OneOf-from_flat_map : {X Y : Type 0} (f : X → List Y) (xs : List X) (y : Y) → OneOf (flat_map f xs) y
    → (x : X) × OneOf xs x × OneOf (f x) y
OneOf-from_flat_map f [] y h = absurd h
OneOf-from_flat_map f (x ∷ xs) y h =
    elim (OneOf-from_append (f x) (flat_map f xs) y h) [
      | inl a ↦ (x, inl refl, a)
      | inr b ↦ (let r = OneOf-from_flat_map f xs y b in (r.0, inr r.1, r.2))
    ]

-- if it is decided for each of finitely many values whether a text has it, the text is accepted or refused
pub decided_among : {V : Type 0} (grammar : List ℕ → V → Type 0) (vs : List V) → ((v : V) → OneOf vs v)
    → (t : List ℕ) → ((v : V) → Told (grammar t v)) → IsAccepted grammar t ⊎ IsRefused grammar t
decided_among {V} grammar vs all t told =
    elim (among vs) [ inl a ↦ inl a | inr r ↦ inr (λ v. r v (all v)) ] where
      among : (ws : List V) → IsAccepted grammar t ⊎ ((v : V) → OneOf ws v → ¬ (grammar t v))
      among [] = inr (λ v o h. o)
      among (w ∷ ws) =
          elim (told w) [
            | inl h ↦ inl (w, h)
            | inr n ↦ elim (among ws) [
              | inl a ↦ inl a
              | inr r ↦ inr
                  (λ v o h. elim o [ inl e ↦ n (subst (grammar t) e h) | inr k ↦ r v k h ])
            ]
          ]

-- a test that is true for all elements of a list is true for each of them
pub all-one : {X : Type 0} (p : X → Bool) (xs : List X) (x : X) → list_all p xs ≡ true → OneOf xs x
    → p x ≡ true
all-one p [] x h o = absurd o
all-one p (y ∷ ys) x h (inl e) = ap p e ∙ (and_parts (p y) (list_all p ys) h).0
all-one p (y ∷ ys) x h (inr o) = all-one p ys x (and_parts (p y) (list_all p ys) h).1 o
