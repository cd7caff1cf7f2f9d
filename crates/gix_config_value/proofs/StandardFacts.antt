-- What scripts that call `config_value` rely on: the names of the kinds, the lines of answers and the exit
-- statuses of docs/GRAMMAR.md. A definition with a wrong word or number fails here.
use Rattle.std.proofs.Common.{◌≡◌, ℕ, List, [], ◌∷◌, map, codes, Result, Ok, Err, true, false, refl}
use Rattle.gix_config_value.specs.declared.kind.Kind.TheVariants as kinds
use Rattle.gix_config_value.specs.declared.program.RunError.TheVariants.{Read, Write}
use Rattle.gix_config_value.specs.Kinds.{kind_name}
use Rattle.gix_config_value.specs.Answers.{accepted, refused, unknown_kind, outcome_text, status_of}

pub kinds_are_named : map kind_name (kinds.Suffix ∷ kinds.Integer ∷ kinds.Amount ∷ kinds.Boolean ∷ kinds.Name
    ∷ kinds.Attribute ∷ kinds.Color ∷ [])
    ≡ map (λ t. codes t) ("suffix" ∷ "integer" ∷ "amount" ∷ "boolean" ∷ "name" ∷ "attribute" ∷ "color" ∷ [])
kinds_are_named = refl

pub answers_are_lines : map outcome_text (accepted (codes "1k") ∷ refused ∷ unknown_kind ∷ [])
    ≡ map (λ t. codes t) ("ok 1k\n" ∷ "refused\n" ∷ "unknown kind\n" ∷ [])
answers_are_lines = refl

-- as with grep(1): 0 for success, 1 for something that is not so, and 2 for an error
pub statuses_are_numbered : map status_of (Ok true ∷ Ok false ∷ Err Read ∷ Err Write ∷ []) ≡ 0 ∷ 1 ∷ 2 ∷ 2 ∷ []
statuses_are_numbered = refl
