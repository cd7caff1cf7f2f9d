-- What an answer tells of a system.
--
-- Look for: an answer that uses a repository uses the one that the rule finds, and only if Git trusts it; one is refused
-- for its owner only if Git does not. Which formats Git knows, at which texts it stops and where the top of a work tree
-- is are not stated here, but tested: such an answer says only that a git directory is there.
use Rattle.std.specs.Prelude.{◌≡◌, ◌⊎◌, ℕ, List, [], Option, None, Some, codes, map}
use Rattle.config_file.specs.declared.errors.Why.TheVariants.{NoFolder}
use Rattle.config_search.specs.System.{System}
use Rattle.config_search.specs.Rule.{GitDir, IsBare, Common, Own, Linked, Broken, or_itself, resolved, common_of}
use Rattle.config_search.specs.Search.{Sought, Nowhere, Inside, Refused, OnlySeeks, path_of, start_of}
use Rattle.config_search.specs.Files.{File, AreOnlyFiles, files_of_scopes, of_repository_in}
use Rattle.config_search.specs.Trust.{IsTrusted, IsUntrusted}
use Rattle.config_search.specs.Shown.{file_of}
use Rattle.config_search.specs.declared.answer.Answer.{Answer}
use Rattle.config_search.specs.declared.answer.Outcome.{Outcome}
use Rattle.config_search.specs.declared.answer.Outcome.TheVariants.{Uses, FindsNone, Refuses, Stops}
use Rattle.config_search.specs.declared.answer.Repository.{Repository}
use Rattle.config_search.specs.declared.answer.Refusal.{Refusal}
use Rattle.config_search.specs.declared.answer.Refusal.TheVariants.{GitDir as OfVariable, Version, Extension, ExtensionOfLater, Owner, Bare}
use Rattle.config_search.specs.declared.TheConstants.{VARIABLE, REAL}

abbrev pub given_or : List ℕ → Option (List ℕ) → List ℕ
given_or other None = other
given_or other (Some given) = given

-- how Git shows another folder that work trees share: as GIT_COMMON_DIR names it, or without links
abbrev pub shown_linked : System → List ℕ → List ℕ
shown_linked system folder = given_or (resolved system folder) (system VARIABLE (codes "GIT_COMMON_DIR"))

-- how Git shows the folder that work trees share, where it shows the git directory by this name
abbrev pub shown_common : System → List ℕ → Common → List ℕ
shown_common system named Own = named
shown_common system named (Linked folder) = shown_linked system folder
shown_common system named Broken = named

-- Git shows the git directory by this name: as it is found, or without links
abbrev pub IsNamed : System → GitDir → List ℕ → Type 0
IsNamed system it name = (name ≡ it.named) ⊎ (name ≡ resolved system it.name)

-- the repository is that of this git directory: by its name without links, by a name that Git shows, and by the folder
-- that it shares in the folder in which it is found
abbrev pub IsOf : System → List ℕ → GitDir → Repository → Type 0
IsOf system folder it repository = (repository.real_git_dir.items ≡ or_itself repository.git_dir.items (system REAL it.name))
    × IsNamed system it repository.named_dir.items
    × (repository.common_dir.items ≡ shown_common system repository.named_dir.items (common_of system folder it.name))

-- a git directory is there
abbrev pub IsThere : Sought → Type 0
IsThere Nowhere = ⊥
IsThere (Inside folder it) = Unit {0}
IsThere (Refused text) = ⊥

-- the repository is that of a git directory which is there and which Git trusts
abbrev pub UsesIt : System → List ℕ → Sought → Repository → Type 0
UsesIt system start Nowhere repository = ⊥
UsesIt system start (Inside folder it) repository = IsOf system folder it repository × IsTrusted system start folder it
UsesIt system start (Refused text) repository = ⊥

-- a git directory is there that is a folder itself
abbrev pub IsBareThere : Sought → Type 0
IsBareThere Nowhere = ⊥
IsBareThere (Inside folder it) = it.form ≡ IsBare
IsBareThere (Refused text) = ⊥

-- a git directory is there that Git does not trust
abbrev pub IsOfOther : System → List ℕ → Sought → Type 0
IsOfOther system start Nowhere = ⊥
IsOfOther system start (Inside folder it) = IsUntrusted system start folder it
IsOfOther system start (Refused text) = ⊥

abbrev pub RefusesIt : System → List ℕ → Sought → Refusal → Type 0
RefusesIt system start sought (OfVariable text) = sought ≡ Refused text.items
RefusesIt system start sought (Version version) = IsThere sought
RefusesIt system start sought (Extension name) = IsThere sought
RefusesIt system start sought (ExtensionOfLater name) = IsThere sought
RefusesIt system start sought (Owner folder) = IsOfOther system start sought
RefusesIt system start sought (Bare folder) = IsBareThere sought

-- a git directory that is there is refused for this
abbrev pub IsOfOneThere : Refusal → Type 0
IsOfOneThere refusal = (system : System) (start : List ℕ) (sought : Sought) → IsThere sought
    → RefusesIt system start sought refusal

-- one that is a folder itself is refused for that
abbrev pub IsOfBareOne : Refusal → Type 0
IsOfBareOne refusal = (system : System) (start : List ℕ) (sought : Sought) → IsBareThere sought
    → RefusesIt system start sought refusal

-- what Git does with what it finds where it starts in a folder
abbrev pub Tells : System → List ℕ → Sought → Outcome → Type 0
Tells system start sought (Uses repository) = UsesIt system start sought repository
Tells system start sought FindsNone = sought ≡ Nowhere
Tells system start sought (Refuses refusal) = RefusesIt system start sought refusal
Tells system start sought (Stops stop) = Unit {0}

-- the files of the repository that is used, if one is
abbrev pub files_of : Outcome → List File
files_of (Uses repository) = of_repository_in repository.common_dir.items repository.named_dir.items repository.has_worktree_files
files_of FindsNone = []
files_of (Refuses refusal) = []
files_of (Stops stop) = []

-- there is no folder in which to start
abbrev pub IsNowhere : Outcome → Type 0
IsNowhere (Uses repository) = ⊥
IsNowhere FindsNone = ⊥
IsNowhere (Refuses refusal) = ⊥
IsNowhere (Stops stop) = stop.why ≡ NoFolder

-- what Git does where it starts in a folder of this path, if there is one
abbrev pub Does : System → List ℕ → Option (List ℕ) → Outcome → Type 0
Does system start None outcome = IsNowhere outcome
Does system start (Some path) outcome = (sought : Sought) × OnlySeeks system start sought × Tells system start sought outcome

-- what the answer tells of a folder in this system
abbrev pub Answers : System → List ℕ → Answer → Type 0
Answers system folder answer =
    Does system (start_of folder) (path_of system (start_of folder)) answer.outcome
    × AreOnlyFiles system (files_of answer.outcome) (map file_of answer.files.items)
    × (map file_of answer.of_scopes.items ≡ files_of_scopes system answer.folder.items (files_of answer.outcome))
