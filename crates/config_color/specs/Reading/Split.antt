-- A function that gives the words of a text. `Laws.Split` proves that it computes `Words`. Only the contracts
-- of private functions cite it.
use Rattle.std.specs.Prelude.{◌≡◌, ℕ, zero, suc, ◌<◌, ◌==◌, List, [], ◌∷◌, ◌++◌, length, drop, Option, None}
use Rattle.std.specs.Prelude.{Some, if◌then◌else◌}
use Rattle.std.specs.Option.{option_or}
use Rattle.config_color.specs.Space.{spellings, Space}
use Rattle.config_color.specs.Words.{piece}

-- what follows `front` in the text, or `None` if the text does not begin with it
abbrev pub after : List ℕ → List ℕ → Option (List ℕ)
after [] text = Some text
after (x ∷ front) [] = None
after (x ∷ front) (y ∷ text) = if x == y then after front text else None

-- what follows the first of these rows that the text begins with
abbrev pub after_one : List (List ℕ) → List ℕ → Option (List ℕ)
after_one [] text = None
after_one (row ∷ rows) text = option_or (after row text) (after_one rows text)

-- what follows the white space that the text begins with
unfoldable pub after_space : List ℕ → Option (List ℕ)
unfolding spellings
after_space text = after_one spellings text

-- no white space begins at the first `n` places of the text
abbrev pub IsWithoutSpace : List ℕ → ℕ → Type 0
IsWithoutSpace text n =
    (k : ℕ) → k < n → (space rest : List ℕ) → Space space → ¬ (drop k text ≡ space ++ rest)

-- a cut of a text: what comes before some white space, and what follows it
abbrev pub Cut : Type 0
Cut = List ℕ × List ℕ

-- the cut further on if there is one, otherwise the cut at this place, if there is one
abbrev pub cut_at : ℕ → Option (List ℕ) → Option Cut → Option Cut
cut_at x here (Some cut) = Some (x ∷ cut.0, cut.1)
cut_at x (Some rest) None = Some ([], rest)
cut_at x None None = None

-- the cut at the last place where white space begins
abbrev pub last_cut : List ℕ → Option Cut
last_cut [] = None
last_cut (x ∷ text) = cut_at x (after_space (x ∷ text)) (last_cut text)

-- the words before the cut, which `earlier` gives, and the piece after it; without a cut, the piece
abbrev pub words_at : List ℕ → (List ℕ → List (List ℕ)) → Option Cut → List (List ℕ)
words_at text earlier None = piece text
words_at text earlier (Some cut) = earlier cut.0 ++ piece cut.1

-- the words of a text that is cut at no more than this many places
abbrev pub words_within : ℕ → List ℕ → List (List ℕ)
words_within zero text = piece text
words_within (suc n) text = words_at text (words_within n) (last_cut text)

-- the words of a text, which has no more places to cut at than bytes
unfoldable pub words : List ℕ → List (List ℕ)
words text = words_within (length text) text
