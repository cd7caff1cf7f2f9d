-- Small systems, as lists of what they answer.
use Rattle.std.specs.Prelude.{ℕ, List, [], ◌∷◌, ◌++◌, None, Some, if◌then◌else◌, ◌==◌, ◌&&◌, codes}
use Rattle.std.specs.Str.{bytes_eq}
use Rattle.config_search.specs.System.{System}
use Rattle.config_search.specs.Names.{inside}
use Rattle.config_search.specs.Rule.{Form, GitDir}
use Rattle.config_search.specs.declared.TheConstants.{VARIABLE, CURRENT, KIND, LEADS, TEXT}

-- the answer to a question
pub record Told : Type 0 where
  pub subject : ℕ
  pub name : List ℕ
  pub text : List ℕ

-- the system that answers these questions and no others
abbrev pub knows : List Told → System
knows [] subject name = None
knows (it ∷ rest) subject name = if (subject == it.subject) && bytes_eq name it.name then Some it.text else knows rest subject name

abbrev pub told : ℕ → List ℕ → List ℕ → List Told
told subject name text = (record { subject = subject; name = name; text = text }) ∷ []

abbrev pub variable : List ℕ → List ℕ → List Told
variable name text = told VARIABLE name text

abbrev pub current : List ℕ → List Told
current folder = told CURRENT [] folder

abbrev pub folder : List ℕ → List Told
folder name = told KIND name (codes "folder") ++ told LEADS name (codes "folder")

abbrev pub file : List ℕ → List ℕ → List Told
file name text = told KIND name (codes "file") ++ told LEADS name (codes "file") ++ told TEXT name text

-- a git directory with this text of HEAD, and with one that names a branch
abbrev pub git_dir_with : List ℕ → List ℕ → List Told
git_dir_with head name = folder name ++ file (inside name (codes "HEAD")) head
    ++ folder (inside name (codes "objects")) ++ folder (inside name (codes "refs"))

abbrev pub git_dir : List ℕ → List Told
git_dir name = git_dir_with (codes "ref: refs/heads/main\n") name

abbrev pub found : List ℕ → List ℕ → Form → GitDir
found name named form = record { name = name; named = named; form = form }
