-- What git-config(1) says about path names, with its own examples, and what passwd(5) says about home
-- directories. A definition with a wrong mark, form or field fails here.
use Rattle.std.proofs.Common.{◌≡◌, ◌≢◌, ℕ, List, [], ◌∷◌, map, codes, Some, None, true, refl, ap, arith, get_or}
use Rattle.std.specs.List.{AllByRecursion}
use Rattle.config_path.specs.Interpolation.{Form, HasForm, IsOneName, join}
use Rattle.config_path.specs.Interpolation.Form.{below_prefix, below_home, below_user, other}
use Rattle.config_path.specs.Passwd.{home_in}
use Rattle.config_path.specs.Path.{Marked}

-- each value has the form in its row
abbrev HaveForms : List (List ℕ × Form) → Type 0
HaveForms rows = AllByRecursion (λ (row : List ℕ × Form). HasForm row.0 row.1) rows

-- "begins with ~/ or ~user/": the home directory, and that of a user; `~` alone is not on that page. "If a
-- path starts with %(prefix)/, the remainder is interpreted as a path relative to Git's runtime prefix"
abbrev expanded : List (List ℕ × Form)
expanded =
    (codes "~/x", below_home (Some (codes "x")))
    ∷ (codes "~", below_home None)
    ∷ (codes "~user/x", below_user (codes "user") (Some (codes "x")))
    ∷ (codes "%(prefix)/bin/", below_prefix (codes "bin/"))
    ∷ []

-- texts that begin with different bytes are different
other_first : (a b : ℕ) (s t : List ℕ) → a ≢ b → a ∷ s ≢ b ∷ t
other_first a b s t differ e = differ (ap (λ l. get_or l 0 0) e)

pub expanded_have_forms : HaveForms expanded
expanded_have_forms = (refl, (refl, ((refl, λ e. cc (e), is_name), (refl, tt)))) where
  is_name : IsOneName (codes "user")
  is_name = (
    λ e. omega (arith, e),
    (λ e. omega (arith, e), (λ e. omega (arith, e), (λ e. omega (arith, e), tt))),
  )

-- "a literal path .. that should not be expanded .. needs to be prefixed by ./, like so: ./%(prefix)/bin"
pub literal_path : HasForm (codes "./%(prefix)/bin") (other (codes "./%(prefix)/bin"))
literal_path = (
  refl,
  λ e. cc (e),
  λ rest. other_first 46 37 _ _ (λ e. omega (arith, e)),
  λ rest. other_first 46 126 _ _ (λ e. omega (arith, e)),
)

-- the mark of an optional path, since Git 2.52
pub optional_path : Marked (codes ":(optional)~/x") true (codes "~/x")
optional_path = refl

-- a directory and a rest are joined by one slash, as in "~/ is expanded to the value of $HOME"; the path
-- table says which directory it is
pub joined : (join (codes "/home/user") (codes "x") ≡ codes "/home/user/x")
    × (join (codes "/home/user/") (codes "x") ≡ codes "/home/user/x")
joined = (refl, refl)

-- "one entry per line, and each line has the format: name:password:UID:GID:GECOS:directory:shell"; a line that
-- lacks a field has no home, and one with a field more neither
pub homes_are_found : map (λ name. home_in (codes
    "root:x:0:0:root:/root:/bin/bash\nsix:x:1:1::/six\neight:x:2:2::/eight::\nuser:x:3:3:A User,,,:/home/user:\n")
    (codes name)) ("root" ∷ "user" ∷ "six" ∷ "eight" ∷ "us" ∷ [])
    ≡ Some (codes "/root") ∷ Some (codes "/home/user") ∷ None ∷ None ∷ None ∷ []
homes_are_found = refl

-- in C a name ends before NUL, and at no other byte, so that no user has a name with a NUL
pub names_have_no_nul : (home_in (codes "\0:x:0:0::/nul:") (codes "\0") ≡ None)
    × (home_in (codes "\u{1}:x:0:0::/one:") (codes "\u{1}") ≡ Some (codes "/one"))
names_have_no_nul = (refl, refl)
