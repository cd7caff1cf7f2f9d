-- Which git directories Git trusts: those that are the user's own, and those of folders that `safe.directory` names.
--
-- Look for: only settings count that no repository can change, and an empty value takes back those before it.
-- `Covers`: `/*` stands for all that is below. One that GIT_DIR names is trusted.
use Rattle.std.specs.Prelude.{◌≡◌, ◌≢◌, ◌⊎◌, ℕ, true, false, List, ◌∷◌, [], ◌++◌, None, Some, if◌then◌else◌, ◌==◌, codes, length, take, drop}
use Rattle.std.specs.List.{prefix_len}
use Rattle.config_file.specs.Key.{Key, HasKey, IsKey}
use Rattle.config_file.specs.Path.{Expands, is_rest}
use Rattle.config_file.specs.Settings.{path_bytes}
use Rattle.config_file.specs.Views.{entry_of}
use Rattle.config_file.specs.declared.settings.Setting.{Setting}
use Rattle.config_search.specs.System.{System}
use Rattle.config_search.specs.Names.{begins, inside, opened, is_no_slash}
use Rattle.config_search.specs.Rule.{GitDir, IsGiven}
use Rattle.config_search.specs.Owner.{IsOwn}
use Rattle.config_search.specs.Protected.{AreProtected}
use Rattle.config_search.specs.declared.TheConstants.{VARIABLE, REAL, HOME}

-- the path that a value spells below the home folder of another user, as `~ann/x`
abbrev pub SpellsOther : System → List ℕ → List ℕ → Type 0
SpellsOther system value path = (rest : List ℕ) × (home : List ℕ) × (value ≡ codes "~" ++ rest)
    × (is_rest rest ≡ false) × (system HOME (take (prefix_len is_no_slash rest) rest) ≡ Some home)
    × (path ≡ home ++ drop (prefix_len is_no_slash rest) rest)

-- the path that a value spells: `~` is the home folder of the user, and `~ann` that of another one
abbrev pub Spells : System → List ℕ → List ℕ → Type 0
Spells system value path =
    Expands (system VARIABLE (codes "HOME")) None value path ⊎ SpellsOther system value path

-- the folder is below this one
abbrev pub IsBelow : List ℕ → List ℕ → Type 0
IsBelow top folder = (before : List ℕ) × (rest : List ℕ)
    × ((top ≡ before) ⊎ (top ≡ before ++ codes "/")) × (folder ≡ before ++ codes "/" ++ rest)

abbrev pub or_root : List ℕ → List ℕ
or_root name = if length name == 0 then codes "/" else name

-- the folder is below the one of this name, of which an empty one is the root
abbrev pub IsAbove : System → List ℕ → List ℕ → Type 0
IsAbove system name folder = (top : List ℕ) × (system REAL (or_root name) ≡ Some top) × IsBelow top folder

-- a path is the name of one above this folder and then `/*`, or it does not end so and is that of the folder
abbrev pub Covers : System → List ℕ → List ℕ → Type 0
Covers system path folder = ((above : List ℕ) × (path ≡ above ++ codes "/*") × IsAbove system above folder)
    ⊎ (((above : List ℕ) → path ≢ above ++ codes "/*") × (system REAL path ≡ Some folder))

-- a path is that of this folder: it is `.` where the search begins in it, or covers it from the root
abbrev pub IsPathTo : System → List ℕ → List ℕ → List ℕ → Type 0
IsPathTo system start path folder = ((path ≡ codes ".") × Covers system (inside start (codes ".")) folder)
    ⊎ ((begins (codes "/") path ≡ true) × Covers system path folder)

-- a value names this folder: it is `*`, or spells a path of it
abbrev pub NamesFolder : System → List ℕ → List ℕ → List ℕ → Type 0
NamesFolder system start value folder = (value ≡ codes "*")
    ⊎ ((path : List ℕ) × Spells system value path × IsPathTo system start path folder)

-- one of the settings with this key names the folder, and no later one is empty
pub data AreSafe (system : System) (start folder : List ℕ) (key : Key) : List Setting → Type 0 where
  named : (settings : List Setting) (setting : Setting) → HasKey (entry_of setting.entry) key
      → NamesFolder system start (path_bytes setting) folder
      → AreSafe system start folder key (settings ++ setting ∷ [])
  kept : {settings : List Setting} (setting : Setting)
      → ¬ (HasKey (entry_of setting.entry) key × (path_bytes setting ≡ [])) → AreSafe system start folder key settings
      → AreSafe system start folder key (settings ++ setting ∷ [])

-- the settings name this folder as safe
abbrev pub SaysSafe : System → List ℕ → List ℕ → List Setting → Type 0
SaysSafe system start folder settings =
    (key : Key) × IsKey (codes "safe.directory") key × AreSafe system start folder key settings

-- the settings that no repository can change name the folder without links as safe
abbrev pub IsSafe : System → List ℕ → List ℕ → Type 0
IsSafe system start folder = (real : List ℕ) × (settings : List Setting) × (system REAL (opened folder) ≡ Some real)
    × AreProtected system start settings × SaysSafe system start real settings

-- the folder has no name without links, or settings that no repository can change do not name that as safe
abbrev pub IsUnsafe : System → List ℕ → List ℕ → Type 0
IsUnsafe system start folder = (system REAL (opened folder) ≡ None)
    ⊎ ((real : List ℕ) × (settings : List Setting) × (system REAL (opened folder) ≡ Some real)
    × AreProtected system start settings × ¬ (SaysSafe system start real settings))

-- Git trusts a git directory of a folder: GIT_DIR names it, it is the user's own, or the folder is safe
abbrev pub IsTrusted : System → List ℕ → List ℕ → GitDir → Type 0
IsTrusted system start folder it =
    (it.form ≡ IsGiven) ⊎ (IsOwn system folder it ⊎ IsSafe system start folder)

-- Git does not trust it: GIT_DIR does not name it, it is not the user's own, and the folder is not safe
abbrev pub IsUntrusted : System → List ℕ → List ℕ → GitDir → Type 0
IsUntrusted system start folder it =
    (it.form ≢ IsGiven) × (¬ (IsOwn system folder it)) × IsUnsafe system start folder
