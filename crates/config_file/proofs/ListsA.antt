-- Lists: what holds of each element, and what a list ends in.
use Rattle.std.proofs.Common.{List, [], ◌∷◌, ◌++◌}
use Rattle.std.specs.List.{All, AllByRecursion}
use Rattle.std.proofs.lemmas.List.Elements.{All-head, All-tail}

pub all_by_recursion : {X : Type 0} (P : X → Type 0) (xs : List X) → All P xs → AllByRecursion P xs
all_by_recursion P [] all = tt
all_by_recursion P (x ∷ xs) all = (All-head P x xs all, all_by_recursion P xs (All-tail P x xs all))

pub all_appended : {X : Type 0} (P : X → Type 0) (xs ys : List X) → AllByRecursion P xs → AllByRecursion P ys
    → AllByRecursion P (xs ++ ys)
all_appended P [] ys all also = also
all_appended P (x ∷ xs) ys all also = (all.0, all_appended P xs ys all.1 also)
