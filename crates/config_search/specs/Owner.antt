-- Which git directories are the user's own.
--
-- Look for: the file `.git` of a folder, the folder and the git directory have to be the user's. Owners and users are
-- numbers in decimal, compared as texts. Which of others Git trusts is in Trust.
use Rattle.std.specs.Prelude.{◌≡◌, ℕ, Bool, true, List, [], codes, ◌&&◌, ◌||◌}
use Rattle.config_search.specs.System.{System}
use Rattle.config_search.specs.Names.{inside, opened}
use Rattle.config_search.specs.Rule.{GitDir, Form, IsGiven, IsBelow, IsBare, is_word}
use Rattle.config_search.specs.Search.{IsOn, is_same}
use Rattle.config_search.specs.declared.TheConstants.{VARIABLE, OWNER, USER}

-- whether the file of this name, a link not followed, is the user's, or that of whoever became root by sudo
abbrev pub is_owned : System → List ℕ → Bool
is_owned system name = is_same (system OWNER name) (system USER [])
    || (is_word (codes "0") (system USER []) && is_same (system OWNER name) (system VARIABLE (codes "SUDO_UID")))

abbrev pub are_owned : System → List ℕ → List ℕ → Form → Bool
are_owned system folder name IsGiven = true
are_owned system folder name IsBelow =
    is_owned system (inside folder (codes ".git")) && is_owned system (opened folder) && is_owned system name
are_owned system folder name IsBare = is_owned system (opened folder)

-- the git directory of this folder is the user's own. A variable may say that it is not, which Git has for tests.
abbrev pub IsOwn : System → List ℕ → GitDir → Type 0
IsOwn system folder it = (¬ (IsOn system (codes "GIT_TEST_ASSUME_DIFFERENT_OWNER")))
    × (are_owned system folder it.name it.form ≡ true)
