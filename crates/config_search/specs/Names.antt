-- Names of files and folders, and the lines that give them.
use Rattle.std.specs.Prelude.{ℕ, Bool, not, List, [], ◌++◌, Option, None, Some, if◌then◌else◌, ◌==◌, ◌||◌, ◌-◌, codes, length, take, drop, max}
use Rattle.std.specs.List.{prefix_len, suffix_len}
use Rattle.std.specs.Str.{bytes_eq}

-- whether the text begins with these bytes
abbrev pub begins : List ℕ → List ℕ → Bool
begins front text = bytes_eq front (take (length front) text)

-- whether the text ends with a slash
abbrev pub ends_with_slash : List ℕ → Bool
ends_with_slash text = bytes_eq (codes "/") (drop (length text - 1) text)

-- the name of a file in a folder, of which an empty one is the current folder: a name from the root stays
abbrev pub inside : List ℕ → List ℕ → List ℕ
inside folder name = if begins (codes "/") name || (length folder == 0) then name
    else (if ends_with_slash folder then folder ++ name else folder ++ codes "/" ++ name)

-- a folder by a name that is not empty
abbrev pub opened : List ℕ → List ℕ
opened folder = if length folder == 0 then codes "." else folder

abbrev pub is_no_slash : ℕ → Bool
is_no_slash b = not (b == 47)

-- how many bytes a name has up to its last `/`, which is counted
abbrev pub front_len : List ℕ → ℕ
front_len name = length name - suffix_len is_no_slash name

-- the folder above one, or none above the root
abbrev pub parent_of : List ℕ → Option (List ℕ)
parent_of name = if front_len name == 0 then None else
    (if front_len name == length name then None else Some (take (max (front_len name - 1) 1) name))

-- the folder of a file, which is empty for a name without `/`
abbrev pub folder_of : List ℕ → List ℕ
folder_of name = if front_len name == 0 then [] else take (max (front_len name - 1) 1) name

abbrev pub is_end : ℕ → Bool
is_end b = (b == 10) || (b == 13)

abbrev pub is_no_nul : ℕ → Bool
is_no_nul b = not (b == 0)

-- a text without the line ends at its end
abbrev pub without_ends : List ℕ → List ℕ
without_ends text = take (length text - suffix_len is_end text) text

-- a text up to its first NUL
abbrev pub before_nul : List ℕ → List ℕ
before_nul text = take (prefix_len is_no_nul text) text

-- what Git takes from a file of one line
abbrev pub line : List ℕ → List ℕ
line text = before_nul (without_ends text)
