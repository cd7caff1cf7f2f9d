-- Which files Git reads, in its order: that of the system, those of the user, and those of the repository. And which
-- one of them `git config` reads and changes for a scope.
--
-- Look for: an empty name is that of no file to read, but a scope keeps it. `GIT_CONFIG_GLOBAL` stands in place of both
-- files of the user. GIT_CONFIG_NOSYSTEM takes the file of the system from what is read, and not from its scope.
use Rattle.std.specs.Prelude.{◌≡◌, ◌⊎◌, ℕ, Bool, false, not, List, [], ◌∷◌, ◌++◌, Option, None, Some, if◌then◌else◌, ◌==◌, ◌||◌, codes, length, drop}
use Rattle.std.specs.List.{prefix_len}
use Rattle.config_file.specs.declared.scope.Scope.{Scope}
use Rattle.config_file.specs.declared.scope.Scope.TheVariants.{System as of_system, Global as of_user, Local as of_repository, Worktree as of_tree}
use Rattle.config_search.specs.System.{System}
use Rattle.config_search.specs.Names.{begins, inside}
use Rattle.config_search.specs.Rule.{is_word}
use Rattle.config_search.specs.Search.{IsOn}
use Rattle.config_search.specs.declared.TheConstants.{VARIABLE, READABLE}

-- a file, and where Git has it from
pub record File : Type 0 where
  pub scope : Scope
  pub name : List ℕ

-- the file of this name
abbrev pub named : Scope → List ℕ → List File
named scope name = (record { scope = scope; name = name }) ∷ []

-- unless it is empty
abbrev pub file : Scope → List ℕ → List File
file scope name = if length name == 0 then [] else named scope name

abbrev pub or_default : List ℕ → Option (List ℕ) → List ℕ
or_default other None = other
or_default other (Some text) = text

abbrev pub system_name : System → List ℕ
system_name system = or_default (codes "/etc/gitconfig") (system VARIABLE (codes "GIT_CONFIG_SYSTEM"))

-- the file of the system, unless GIT_CONFIG_NOSYSTEM says that it is not read
abbrev pub IsOfSystem : System → List File → Type 0
IsOfSystem system files = (IsOn system (codes "GIT_CONFIG_NOSYSTEM") × (files ≡ []))
    ⊎ ((¬ (IsOn system (codes "GIT_CONFIG_NOSYSTEM")))
    × (files ≡ file of_system (system_name system)))

abbrev pub is_slash : ℕ → Bool
is_slash b = b == 47

abbrev pub without_slashes : List ℕ → List ℕ
without_slashes name = drop (prefix_len is_slash name) name

abbrev pub without_dot : List ℕ → List ℕ
without_dot name = if begins (codes "./") name then without_slashes (drop 2 name) else name

-- the name of a file in a folder, as Git shows it: without `./` at its start
abbrev pub shown_in : List ℕ → List ℕ → List ℕ
shown_in folder name = without_dot (folder ++ codes "/" ++ name)

abbrev pub in_home : Option (List ℕ) → List ℕ → List File
in_home None name = []
in_home (Some home) name = file of_user (home ++ codes "/" ++ name)

abbrev pub in_config_home : Option (List ℕ) → List File
in_config_home None = []
in_config_home (Some home) = file of_user (shown_in home (codes ".config/git/config"))

-- the first file of the user: in XDG_CONFIG_HOME, if that is not empty, or in `.config` of the home folder
abbrev pub in_xdg : Option (List ℕ) → Option (List ℕ) → List File
in_xdg home None = in_config_home home
in_xdg home (Some folder) = if length folder == 0 then in_config_home home
    else file of_user (shown_in folder (codes "git/config"))

abbrev pub of_user_by : System → Option (List ℕ) → List File
of_user_by system None = in_xdg (system VARIABLE (codes "HOME")) (system VARIABLE (codes "XDG_CONFIG_HOME"))
    ++ in_home (system VARIABLE (codes "HOME")) (codes ".gitconfig")
of_user_by system (Some name) = file of_user name

-- the files of the user: the one that GIT_CONFIG_GLOBAL names, or two
abbrev pub files_of_user : System → List File
files_of_user system = of_user_by system (system VARIABLE (codes "GIT_CONFIG_GLOBAL"))

-- the files of a repository: that of the folder that work trees share, and that of a work tree of its own
abbrev pub of_repository_in : List ℕ → List ℕ → Bool → List File
of_repository_in shared own has_own = file of_repository (shown_in shared (codes "config"))
    ++ (if has_own then file of_tree (shown_in own (codes "config.worktree")) else [])

-- these are the files of the system, those of the user, and these others
abbrev pub AreFiles : System → List File → List File → Type 0
AreFiles system others files = (first : List File) × IsOfSystem system first × (files ≡ first ++ files_of_user system ++ others)

-- and no other list is
abbrev pub AreOnlyFiles : System → List File → List File → Type 0
AreOnlyFiles system others files = AreFiles system others files
    × ((list : List File) → AreFiles system others list → list ≡ files)

-- The files of scopes

-- whether the user may read the first of these files, whose names begin in the folder in which Git works
abbrev pub can_read : System → List ℕ → List File → Bool
can_read system folder [] = false
can_read system folder (it ∷ rest) = is_word (codes "yes") (system READABLE (inside folder it.name))

-- these files, unless only the others may be read
abbrev pub or_readable : System → List ℕ → List File → List File → List File
or_readable system folder own others =
    if can_read system folder own || not (can_read system folder others) then own else others

abbrev pub one_of_home : System → List ℕ → Option (List ℕ) → List File
one_of_home system folder None = []
one_of_home system folder (Some home) = or_readable system folder (in_home (Some home) (codes ".gitconfig"))
    (in_xdg (Some home) (system VARIABLE (codes "XDG_CONFIG_HOME")))

abbrev pub one_of_user_by : System → List ℕ → Option (List ℕ) → List File
one_of_user_by system folder None = one_of_home system folder (system VARIABLE (codes "HOME"))
one_of_user_by system folder (Some name) = named of_user name

-- the file of the user that `--global` means: the one that GIT_CONFIG_GLOBAL names, or the one in the home folder, or the
-- one of `in_xdg` if that alone may be read. Without a home folder there is none.
abbrev pub one_of_user : System → List ℕ → List File
one_of_user system folder = one_of_user_by system folder (system VARIABLE (codes "GIT_CONFIG_GLOBAL"))

-- the file of each scope: of the system, of the user, and these others of a repository
abbrev pub files_of_scopes : System → List ℕ → List File → List File
files_of_scopes system folder others = named of_system (system_name system) ++ one_of_user system folder ++ others
