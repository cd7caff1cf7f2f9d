-- The home directory of a user in a passwd text.
use Rattle.std.specs.Prelude.{◌≡◌, ℕ, ◌==◌, List, [], ◌∷◌, Option, None, Some, if◌then◌else◌}
use Rattle.std.specs.List.{slice_split, list_any}
use Rattle.std.specs.Option.{option_or}
use Rattle.std.specs.Str.{bytes_eq}
use Rattle.config_text.specs.Bytes.{line_feed}

-- `:`
abbrev pub colon : ℕ
colon = 58

-- NUL, U+0000
abbrev pub nul : ℕ
nul = 0

-- the pieces of a text that is cut at each separator
abbrev pub pieces : ℕ → List ℕ → List (List ℕ)
pieces separator text = slice_split (λ b. b == separator) text

-- the home in these fields: the sixth, if there are exactly seven and the first is the name
abbrev pub home_of_fields : List ℕ → List (List ℕ) → Option (List ℕ)
home_of_fields name (user ∷ password ∷ id ∷ group ∷ comment ∷ home ∷ shell ∷ []) =
    if bytes_eq user name then Some home else None
home_of_fields name _ = None

-- the home in the first of these lines that has a home
abbrev pub home_in_lines : List ℕ → List (List ℕ) → Option (List ℕ)
home_in_lines name [] = None
home_in_lines name (line ∷ lines) =
    option_or (home_of_fields name (pieces colon line)) (home_in_lines name lines)

-- the home in a passwd text: its lines end at LF and fields at `:`; a name with a NUL has no home
abbrev pub home_in : List ℕ → List ℕ → Option (List ℕ)
home_in passwd name =
    if list_any (λ b. b == nul) name then None else home_in_lines name (pieces line_feed passwd)

-- the home is what a lookup in the passwd text returns for the name
abbrev pub IsHomeIn : List ℕ → List ℕ → Option (List ℕ) → Type 0
IsHomeIn passwd name home = home ≡ home_in passwd name
