-- Texts that Git reads by rules of their own: refspecs, names of branches, the command lines of aliases,
-- colors by age.
use Rattle.std.specs.Prelude.{◌≡◌, ◌≢◌, ◌⊎◌, ℕ, ◌≤◌, ◌==◌, ◌||◌, ⊤, nat_lt, not, Bool, true, false, List, []}
use Rattle.std.specs.Prelude.{◌∷◌, ◌++◌}
use Rattle.std.specs.Prelude.{Option, None, Some, codes, count_by, if◌then◌else◌, All}
use Rattle.std.specs.List.{list_any, list_all, slice_split, fold}
use Rattle.bstr.specs.Text.{Contains}
use Rattle.config_text.specs.Value.{IsAccepted}
use Rattle.gix_config_value.specs.Color.{ColorText}
use Rattle.config_checks.specs.declared.shape.Quote.{Quote}
use Rattle.config_checks.specs.declared.shape.Quote.TheVariants.{Outside, Single, Double, Escaped, DoubleEscaped}
use Rattle.config_checks.specs.Kinds.{without_front}
use Rattle.config_checks.specs.declared.shape.Shape.{Shape}
use Rattle.config_checks.specs.declared.shape.Shape.TheVariants.{FetchRefspec, PushRefspec, Branch, Command}
use Rattle.config_checks.specs.declared.shape.Shape.TheVariants.{NoOption, ColorsByAge}

abbrev pub BeginsWith : List ℕ → List ℕ → Type 0
BeginsWith t front = (rest : List ℕ) × (t ≡ front ++ rest)

abbrev pub EndsWith : List ℕ → List ℕ → Type 0
EndsWith t end = (front : List ℕ) × (t ≡ front ++ end)

-- ---- names of refs, by git-check-ref-format(1)

-- a byte that no name has: a control character, a space, DEL, or one of ~ ^ : ? [ \
abbrev pub is_no_ref_byte : ℕ → Bool
is_no_ref_byte b = nat_lt b 33 || (b == 127) || (b == 126) || (b == 94) || (b == 58) || (b == 63) ||
    (b == 91) || (b == 92)

abbrev pub is_slash : ℕ → Bool
is_slash b = b == 47

-- what stands between slashes is not empty, does not begin with a dot, and does not end with `.lock`
pub record IsRefPart (part : List ℕ) : Type 0 where
  pub some : part ≢ []
  pub front : ¬ (BeginsWith part (codes "."))
  pub end : ¬ (EndsWith part (codes ".lock"))

-- how many `*` the text has
abbrev pub stars : List ℕ → ℕ
stars t = count_by (λ b. b == 42) t

-- the text is the name of a ref, or with one `*` a pattern of names
pub record IsRef (t : List ℕ) : Type 0 where
  pub bytes : list_any is_no_ref_byte t ≡ false
  pub parts : All IsRefPart (slice_split is_slash t)
  pub dots : ¬ (Contains t (codes ".."))
  pub log : ¬ (Contains t (codes "@{"))
  pub end : ¬ (EndsWith t (codes "."))
  pub no_head : t ≢ codes "@"
  pub one_star : stars t ≤ 1

abbrev pub IsName : List ℕ → Type 0
IsName t = IsRef t × (stars t ≡ 0)

-- a branch has the name of a ref below `refs/heads/`
abbrev pub IsBranch : List ℕ → Type 0
IsBranch t = IsName (codes "refs/heads/" ++ t)

-- ---- refspecs, by git-fetch(1) and git-push(1)

-- a ref, or `@`, which is HEAD
abbrev pub IsSource : List ℕ → Type 0
IsSource source = (source ≡ codes "@") ⊎ IsRef source

abbrev pub is_no_colon : ℕ → Bool
is_no_colon b = not (b == 58)

-- the two sides of the last colon of a refspec, or its only side
abbrev pub HasSides : List ℕ → List ℕ → Option (List ℕ) → Type 0
HasSides t source None = (source ≡ t) × (list_all is_no_colon t ≡ true)
HasSides t source (Some target) = (t ≡ source ++ 58 ∷ target) × (list_all is_no_colon target ≡ true)

-- A fetch takes a ref into another one, or into none. An empty source is HEAD. Both are patterns, or neither is.
abbrev pub IsFetched : List ℕ → Option (List ℕ) → Type 0
IsFetched source None = ((source ≡ []) ⊎ IsSource source) × (stars source ≡ 0)
IsFetched source (Some target) =
    ((source ≡ []) ⊎ IsSource source) × ((target ≡ []) ⊎ IsRef target) × (stars source ≡ stars target)

-- A push takes any object into a ref, or nothing, which deletes the ref; `:` pushes what both have. Both sides are
-- patterns, or neither is. What is pushed alone is a ref.
abbrev pub IsPushed : List ℕ → Option (List ℕ) → Type 0
IsPushed source None = IsSource source
IsPushed source (Some target) = ((source ≡ []) × (target ≡ []))
    ⊎ (IsRef target × (stars source ≡ stars target) × ((stars source ≡ 0) ⊎ IsRef source))

-- what follows a `^`, which leaves out refs, is one ref or pattern
abbrev pub IsLeftOut : List ℕ → Option (List ℕ) → Type 0
IsLeftOut source None = IsSource source
IsLeftOut source (Some target) = ⊥

-- the sides of the text are these
abbrev pub HaveSides : (List ℕ → Option (List ℕ) → Type 0) → List ℕ → Type 0
HaveSides Are t = (source : List ℕ) × (target : Option (List ℕ)) × HasSides t source target × Are source target

-- the refspec begins with `^`, or it has such sides, perhaps behind a `+`, which forces it
abbrev pub IsRefspec : (List ℕ → Option (List ℕ) → Type 0) → List ℕ → Type 0
IsRefspec Are t = ((rest : List ℕ) × (t ≡ codes "^" ++ rest) × HaveSides IsLeftOut rest)
    ⊎ (¬ (BeginsWith t (codes "^")) × HaveSides Are (without_front (codes "+") t))

-- ---- command lines

-- where a byte of a command line leads: a backslash escapes the next byte but within single quotes
abbrev pub quote_after : Quote → ℕ → Quote
quote_after Outside b = if b == 39 then Single else if b == 34 then Double else if b == 92 then Escaped else Outside
quote_after Single b = if b == 39 then Outside else Single
quote_after Double b = if b == 34 then Outside else if b == 92 then DoubleEscaped else Double
quote_after Escaped b = Outside
quote_after DoubleEscaped b = Double

-- a byte that is no white space of ASCII
abbrev pub is_black : ℕ → Bool
is_black b = not ((b == 32) || (b == 9) || (b == 10) || (b == 11) || (b == 12) || (b == 13))

-- A shell takes what follows a `!`. Any other text has a word, and no quote and no backslash is open at its end.
abbrev pub IsCommand : List ℕ → Type 0
IsCommand t = BeginsWith t (codes "!") ⊎ ((list_any is_black t ≡ true) × (fold quote_after Outside t ≡ Outside))

-- ---- colors by age

abbrev pub is_comma : ℕ → Bool
is_comma b = b == 44

-- a color is followed by a date, which Git takes in any form, and a date by a color
abbrev pub Follows : (color : Bool) → List ℕ → Type 0
Follows true field = ⊤
Follows false field = IsAccepted ColorText field

-- a color comes first, and then dates and colors in turn; `color` if a color is the last
pub data Alternate : (color : Bool) → List (List ℕ) → Type 0 where
  nothing : Alternate false []
  next : (color : Bool) (fields : List (List ℕ)) (field : List ℕ) → Alternate color fields → Follows color field
      → Alternate (not color) (fields ++ field ∷ [])

-- colors with a date between each two of them
abbrev pub AreColorsByAge : List ℕ → Type 0
AreColorsByAge t = Alternate true (slice_split is_comma t)

-- ---- names of submodules

-- what stands between the parts of a path on any system
abbrev pub is_path_separator : ℕ → Bool
is_path_separator b = (b == 47) || (b == 92)

-- Git ignores a submodule whose name is empty, or has a part that leads out of it
abbrev pub IsSubmoduleName : List ℕ → Type 0
IsSubmoduleName name = (name ≢ []) × All (λ part. part ≢ codes "..") (slice_split is_path_separator name)

-- ---- all shapes

-- the text has this shape
abbrev pub HasShape : Shape → List ℕ → Type 0
HasShape FetchRefspec t = IsRefspec IsFetched t
HasShape PushRefspec t = IsRefspec IsPushed t
HasShape Branch t = IsBranch t
HasShape Command t = IsCommand t
HasShape NoOption t = ¬ (BeginsWith t (codes "-"))
HasShape ColorsByAge t = AreColorsByAge t

-- what is said of a text that has not this shape
abbrev pub shape_fault : Shape → List ℕ
shape_fault FetchRefspec = codes "not a refspec"
shape_fault PushRefspec = codes "not a refspec"
shape_fault Branch = codes "not the name of a branch"
shape_fault Command = codes "not a command: it is empty, or a quote or a backslash is open at its end"
shape_fault NoOption = codes "begins with -, as an option"
shape_fault ColorsByAge = codes "not colors with dates between them"
