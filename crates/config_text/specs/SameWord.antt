-- Words compared ignoring ASCII case.
--
-- Look for (here and in OneOf): only `A` to `Z` change: U+212A is not a `k`. `OneOf`: in the list.
use Rattle.std.specs.Prelude.{◌≡◌, ℕ, List, map}
use Rattle.std.specs.Char.{to_ascii_lowercase}

-- same word: the two texts are equal once `A` to `Z` are taken as `a` to `z`
abbrev pub SameWord : List ℕ → List ℕ → Type 0
SameWord t w = map to_ascii_lowercase t ≡ map to_ascii_lowercase w
