-- The words of a text, which is cut at white space without being decoded.
use Rattle.std.specs.Prelude.{◌≡◌, ℕ, List, [], ◌∷◌, ◌++◌}
use Rattle.config_color.specs.Space.{Space}

-- the text contains no white space
abbrev pub HasNoSpace : List ℕ → Type 0
HasNoSpace text = (before space rest : List ℕ) → Space space → ¬ (text ≡ before ++ space ++ rest)

-- the text as one word, or no word if it is empty
abbrev pub piece : List ℕ → List (List ℕ)
piece [] = []
piece (x ∷ text) = (x ∷ text) ∷ []

-- the words of a text: without white space it is one piece; otherwise it is cut at its last white space
pub data Words : List ℕ → List (List ℕ) → Type 0 where
  whole : (text : List ℕ) → HasNoSpace text → Words text (piece text)
  cut : (before space rest : List ℕ) (words : List (List ℕ)) → Words before words → Space space
      → HasNoSpace rest
      → Words (before ++ space ++ rest) (words ++ piece rest)
