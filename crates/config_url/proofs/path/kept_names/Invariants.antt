use Rattle.std.proofs.Common.{◌↔◌, ◌++◌, ◌∷◌, [], ℕ, List, length, map}
use Rattle.config_url.specs.Url.{Leads, pieces, slash}
use Rattle.config_url.proofs.path.kept_names.Given as goal

abbrev pub invariant-names : goal.invariant-names
invariant-names l = (all : List (List ℕ))
    → (Leads (map (λ n. n.now) l.kept.items) (pieces slash (l.rest ++ slash ∷ [])) all
    ↔ Leads [] (pieces slash (l.fn.path ++ slash ∷ [])) all)

abbrev pub decreases-names : goal.decreases-names
decreases-names l = length l.rest
