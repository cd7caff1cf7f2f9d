-- What C callers that were compiled earlier rely on: the numbers of include/gix_config_value.h. A definition
-- with another number fails here.
use Rattle.std.proofs.Common.{◌≡◌, ℕ, List, [], ◌∷◌, map, refl}
use Rattle.gix_config_value.specs.declared.kind.Kind.TheVariants as kinds
use Rattle.gix_config_value_c.specs.Numbers.{kind_number}

pub kinds_are_numbered : map kind_number (kinds.Suffix ∷ kinds.Integer ∷ kinds.Amount ∷ kinds.Boolean ∷ kinds.Name
    ∷ kinds.Attribute ∷ kinds.Color ∷ [])
    ≡ 1 ∷ 2 ∷ 3 ∷ 4 ∷ 5 ∷ 6 ∷ 7 ∷ []
kinds_are_numbered = refl
