-- The elements of a list.
use Rattle.std.specs.Prelude.{◌≡◌, ◌⊎◌, List, [], ◌∷◌}

-- `x` is an element of the list
abbrev pub OneOf : {X : Type 0} → List X → X → Type 0
OneOf [] x = ⊥
OneOf (y ∷ ys) x = (x ≡ y) ⊎ OneOf ys x
