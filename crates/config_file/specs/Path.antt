-- The name of an included file.
use Rattle.std.specs.Prelude.{◌≡◌, ℕ, Bool, true, false, not, ◌==◌, ◌-◌, take, length, List, [], ◌∷◌, ◌++◌}
use Rattle.std.specs.Prelude.{codes, Option, None, Some}
use Rattle.std.specs.List.{suffix_len}
use Rattle.config_text.specs.Bytes.{LacksFront}
use Rattle.config_file.specs.Set.{slash}

-- whether the bytes are empty or begin with `/`
abbrev pub is_rest : List ℕ → Bool
is_rest [] = true
is_rest (b ∷ rest) = b == slash

-- the path of a value: `~` is replaced by the home directory, `%(prefix)` before `/` by the install directory
pub data Expands (home install_dir : Option (List ℕ)) : List ℕ → List ℕ → Type 0 where
  below_home : {value path : List ℕ} (dir rest : List ℕ) → value ≡ codes "~" ++ rest → is_rest rest ≡ true
      → home ≡ Some dir
      → path ≡ dir ++ rest → Expands home install_dir value path
  below_prefix : {value path : List ℕ} (dir rest : List ℕ) → value ≡ codes "%(prefix)/" ++ rest
      → install_dir ≡ Some dir
      → path ≡ dir ++ (codes "/" ++ rest) → Expands home install_dir value path
  other : {value path : List ℕ} → LacksFront (codes "~") value → LacksFront (codes "%(prefix)/") value
      → path ≡ value
      → Expands home install_dir value path

-- the value begins with `~` and a user's name, or with a home or install directory that is not known
pub data BeginsUnknown (home install_dir : Option (List ℕ)) : List ℕ → Type 0 where
  user : {value : List ℕ} (rest : List ℕ) → value ≡ codes "~" ++ rest → is_rest rest ≡ false
      → BeginsUnknown home install_dir value
  no_home : {value : List ℕ} (rest : List ℕ) → value ≡ codes "~" ++ rest → home ≡ None
      → BeginsUnknown home install_dir value
  no_prefix : {value : List ℕ} (rest : List ℕ) → value ≡ codes "%(prefix)/" ++ rest → install_dir ≡ None
      → BeginsUnknown home install_dir value

abbrev pub is_no_slash : ℕ → Bool
is_no_slash b = not (b == slash)

-- the directory of a file: its name up to its last `/`, which is included; empty if it has no `/`
abbrev pub directory : List ℕ → List ℕ
directory file = take (length file - suffix_len is_no_slash file) file

-- the name of an included file: its path, after the directory of the including file unless it begins with `/`
pub data IsIncludedName (file path : List ℕ) : List ℕ → Type 0 where
  absolute : {name : List ℕ} (rest : List ℕ) → path ≡ codes "/" ++ rest → name ≡ path
      → IsIncludedName file path name
  relative : {name : List ℕ} → LacksFront (codes "/") path → name ≡ directory file ++ path
      → IsIncludedName file path name
