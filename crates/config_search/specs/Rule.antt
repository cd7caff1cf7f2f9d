-- Which git directory Git uses in a folder: the rule, over a snapshot of a system.
--
-- Look for: a system is one function from a subject and a name to a text or none, and a fact is one value of
-- it. An empty folder is the current one. `is_git_dir` counts a folder whose file commondir names nothing,
-- since Git stops there. `find_in`: `.git` before the folder itself.
use Rattle.std.specs.Prelude.{ℕ, Bool, true, false, not, List, [], Option, None, Some, if◌then◌else◌, ◌==◌, ◌&&◌, ◌||◌, leb, codes, length, take, drop, is_some}
use Rattle.std.specs.List.{prefix_len}
use Rattle.std.specs.Str.{bytes_eq}
use Rattle.config_search.specs.System.{System}
use Rattle.config_search.specs.Names.{begins, inside, opened, folder_of, line}
use Rattle.config_search.specs.declared.TheConstants.{VARIABLE, CURRENT, KIND, LEADS, LINK, REAL, TEXT}

-- whether an answer is this word
abbrev pub is_word : List ℕ → Option (List ℕ) → Bool
is_word word None = false
is_word word (Some text) = bytes_eq text word

-- whether a name in a folder leads to a folder
abbrev pub has_folder : System → List ℕ → List ℕ → Bool
has_folder system folder name = is_word (codes "folder") (system LEADS (inside folder name))

-- the name without links, or the name itself if the system knows none
abbrev pub or_itself : List ℕ → Option (List ℕ) → List ℕ
or_itself name None = name
or_itself name (Some real) = real

abbrev pub resolved : System → List ℕ → List ℕ
resolved system name = or_itself name (system REAL name)

-- HEAD

abbrev pub is_hex : ℕ → Bool
is_hex b = (leb 48 b && leb b 57) || (leb 65 b && leb b 70) || (leb 97 b && leb b 102)

abbrev pub is_blank : ℕ → Bool
is_blank b = (b == 32) || (b == 9) || (b == 10) || (b == 13)

abbrev pub without_blanks : List ℕ → List ℕ
without_blanks text = drop (prefix_len is_blank text) text

-- whether this start of a HEAD is Git's: it names a reference after `ref:`, or an object by 40 digits or more
abbrev pub is_start : List ℕ → Bool
is_start text = if begins (codes "ref:") text then begins (codes "refs/") (without_blanks (drop 4 text))
    else leb 40 (prefix_len is_hex text)

-- whether a text of HEAD is Git's, of which it looks at 255 bytes
abbrev pub is_head : Option (List ℕ) → Bool
is_head None = false
is_head (Some text) = is_start (take 255 text)

-- whether a link leads to a reference
abbrev pub is_reference_link : Option (List ℕ) → Bool
is_reference_link None = false
is_reference_link (Some target) = begins (codes "refs/") target

-- whether HEAD of a folder is Git's: a link to a reference, or a file
unfoldable pub has_head : System → List ℕ → Bool
has_head system folder =
    if is_word (codes "link") (system KIND (inside folder (codes "HEAD")))
    then is_reference_link (system LINK (inside folder (codes "HEAD")))
    else (if is_word (codes "file") (system KIND (inside folder (codes "HEAD")))
    then is_head (system TEXT (inside folder (codes "HEAD"))) else false)

-- Folders that work trees share

-- the folder that a git directory shares with others: itself, another one, or none, where Git stops
pub data Common : Type 0 where
  Own : Common
  Linked : List ℕ → Common
  Broken : Common

-- whether there is a folder of this name, or one in which it may be
abbrev pub may_be_folder : System → List ℕ → Bool
may_be_folder system name = has_folder system [] name || has_folder system [] (folder_of name)

-- what a text of the file commondir names
abbrev pub linked_by : System → List ℕ → Option (List ℕ) → Common
linked_by system folder None = Broken
linked_by system folder (Some text) = if length text == 0 then Broken else
    (if may_be_folder system (inside folder (line text)) then Linked (inside folder (line text)) else Broken)

-- what the file commondir of a git directory names
unfoldable pub linked_folder : System → List ℕ → Common
linked_folder system folder = if is_some (system KIND (inside folder (codes "commondir")))
    then linked_by system folder (system TEXT (inside folder (codes "commondir"))) else Own

-- the folder that GIT_COMMON_DIR names where Git starts in this one: an empty name is that of the root
abbrev pub given_in : List ℕ → List ℕ → List ℕ
given_in start name = if length name == 0 then codes "/" else inside start name

abbrev pub given_or : List ℕ → Common → Option (List ℕ) → Common
given_or start other None = other
given_or start other (Some name) = Linked (given_in start name)

-- the folder that a git directory shares: that of GIT_COMMON_DIR, or of its file commondir
abbrev pub common_of : System → List ℕ → List ℕ → Common
common_of system start folder = given_or start (linked_folder system folder) (system VARIABLE (codes "GIT_COMMON_DIR"))

-- whether a folder has objects, or GIT_OBJECT_DIRECTORY names one in the folder in which Git starts
abbrev pub has_objects_by : System → List ℕ → List ℕ → Option (List ℕ) → Bool
has_objects_by system start folder None = has_folder system folder (codes "objects")
has_objects_by system start folder (Some given) = if length given == 0 then false else has_folder system start given

-- whether there are objects, and refs in this folder
abbrev pub has_folders : System → List ℕ → List ℕ → Bool
has_folders system start folder =
    has_objects_by system start folder (system VARIABLE (codes "GIT_OBJECT_DIRECTORY"))
    && has_folder system folder (codes "refs")

abbrev pub shares : System → List ℕ → List ℕ → Common → Bool
shares system start folder Own = has_folders system start folder
shares system start folder (Linked other) = has_folders system start other
shares system start folder Broken = true

-- whether this folder is a git directory: HEAD is Git's, there are objects, and what it shares has refs. Where its
-- file commondir names no folder, Git stops at it.
unfoldable pub is_git_dir : System → List ℕ → List ℕ → Bool
is_git_dir system start folder = has_head system folder && shares system start folder (common_of system start folder)

-- Git directories of folders

-- the name that a text `gitdir: NAME` gives in this folder, or none
abbrev pub target : List ℕ → Option (List ℕ) → Option (List ℕ)
target folder None = None
target folder (Some text) =
    if begins (codes "gitdir: ") (line text) then Some (inside folder (drop 8 (line text))) else None

-- whether a file of this kind may hold a line
abbrev pub may_link : Option (List ℕ) → Bool
may_link None = false
may_link (Some kind) = not (bytes_eq kind (codes "folder"))

abbrev pub resolved_target : System → Option (List ℕ) → Option (List ℕ)
resolved_target system None = None
resolved_target system (Some name) = Some (resolved system name)

-- the name to which the line `gitdir: NAME` of this file leads, or none
unfoldable pub linked : System → List ℕ → Option (List ℕ)
linked system name = if may_link (system KIND name)
    then resolved_target system (target (folder_of name) (system TEXT name)) else None

-- how a git directory is named: by GIT_DIR, as `.git` of a folder, or as a folder itself
pub data Form : Type 0 where
  IsGiven : Form
  IsBelow : Form
  IsBare : Form

-- a git directory: its name as the system opens it, and as Git has it in the folder where it is found
pub record GitDir : Type 0 where
  pub name : List ℕ
  pub named : List ℕ
  pub form : Form

abbrev pub linked_or : List ℕ → List ℕ → Form → Option (List ℕ) → GitDir
linked_or name named form None = record { name = name; named = named; form = form }
linked_or name named form (Some target) = record { name = target; named = target; form = form }

-- this git directory, if it is one
abbrev pub checked : System → List ℕ → GitDir → Option GitDir
checked system start it = if is_git_dir system start it.name then Some it else None

-- where `.git` of a folder leads
abbrev pub below : System → List ℕ → GitDir
below system folder = linked_or (inside folder (codes ".git")) (codes ".git") IsBelow (linked system (inside folder (codes ".git")))

-- the git directory to which `.git` of a folder leads
unfoldable pub find_below : System → List ℕ → List ℕ → Option GitDir
find_below system start folder = if is_some (system KIND (inside folder (codes ".git")))
    then checked system start (below system folder) else None

-- the git directory that a folder itself is
unfoldable pub find_bare : System → List ℕ → List ℕ → Option GitDir
find_bare system start folder = if is_git_dir system start folder
    then Some (record { name = opened folder; named = codes "."; form = IsBare }) else None

abbrev pub or_else : Option GitDir → Option GitDir → Option GitDir
or_else None other = other
or_else (Some it) other = Some it

-- the git directory of a folder: where `.git` leads, or else the folder itself
abbrev pub find_in : System → List ℕ → List ℕ → Option GitDir
find_in system start folder = or_else (find_below system start folder) (find_bare system start folder)

-- Where a search begins

-- the path of a folder without links
abbrev pub real_folder : System → List ℕ → Option (List ℕ)
real_folder system name = if length name == 0 then system CURRENT [] else
    (if has_folder system [] name then system REAL name else None)
