-- How the first fields of a line are skipped.
use Rattle.std.specs.Prelude.{◌≡◌, ℕ, List, ◌++◌, length}

-- `rest` is what follows the first `count` fields
pub record FollowsFields (count : ℕ) (fields rest : List (List ℕ)) : Type 0 where
  pub others : List (List ℕ)
  pub counted : length others ≡ count
  pub parts : fields ≡ others ++ rest
