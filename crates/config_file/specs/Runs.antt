-- The longest run of bytes that pass a test.
use Rattle.std.specs.Prelude.{◌≡◌, ℕ, Bool, true, false, List, [], ◌∷◌, ◌++◌, ⊤}
use Rattle.std.specs.List.{list_all}

-- the rest is empty, or its first byte fails the test
abbrev pub StopsRun : (ℕ → Bool) → List ℕ → Type 0
StopsRun test [] = ⊤
StopsRun test (b ∷ rest) = test b ≡ false

-- the text begins with this longest run of bytes that pass the test, and this rest follows
pub record Run (test : ℕ → Bool) (text run rest : List ℕ) : Type 0 where
  pub joined : text ≡ run ++ rest
  pub pass : list_all test run ≡ true
  pub longest : StopsRun test rest
