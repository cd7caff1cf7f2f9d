-- Which git directory Git finds from a folder: that of GIT_DIR, or the first one upwards.
--
-- Look for: `Ends` counts a ceiling without links, but after an empty part of the list as it stands. A part that does
-- not begin at the root ends no search, since a search goes upwards in the path without links, from the folder above the
-- one in which it starts. `Seeks` has one result.
use Rattle.std.specs.Prelude.{◌≡◌, ◌≢◌, ◌⊎◌, ℕ, Bool, true, false, not, List, [], ◌∷◌, ◌++◌, Option, None, Some, if◌then◌else◌, ◌==◌, ◌&&◌, ◌-◌, codes, length, take, Contains}
use Rattle.std.specs.Str.{bytes_eq}
use Rattle.config_boolean.specs.Boolean.{BooleanText}
use Rattle.config_boolean.specs.declared.boolean.Boolean.{Boolean}
use Rattle.config_search.specs.System.{System}
use Rattle.config_search.specs.Names.{begins, ends_with_slash, inside, opened, parent_of}
use Rattle.config_search.specs.Rule.{GitDir, IsGiven, is_word, or_itself, real_folder, linked, linked_or, checked, find_in}
use Rattle.config_search.specs.declared.TheConstants.{VARIABLE, REAL, DEVICE, IDENTITY}

abbrev pub IsOnText : Option (List ℕ) → Type 0
IsOnText None = ⊥
IsOnText (Some text) = (v : Boolean) × BooleanText text v × (v.0 ≡ true)

-- a variable is on: its text is a boolean that is true
abbrev pub IsOn : System → List ℕ → Type 0
IsOn system name = IsOnText (system VARIABLE name)

-- Where a search begins

-- the folder of this name: `.` is the current one, which has the empty name
abbrev pub start_of : List ℕ → List ℕ
start_of name = if bytes_eq name (codes ".") then [] else name

abbrev pub is_same : Option (List ℕ) → Option (List ℕ) → Bool
is_same None other = false
is_same (Some it) other = is_word it other

-- whether this name from the root is one of the folder
abbrev pub is_path_of : System → List ℕ → List ℕ → Bool
is_path_of system path folder =
    if begins (codes "/") path then is_same (system IDENTITY (opened folder)) (system IDENTITY path) else false

abbrev pub path_by : System → List ℕ → Option (List ℕ) → Option (List ℕ)
path_by system folder None = real_folder system folder
path_by system folder (Some path) = if is_path_of system path folder then Some path else real_folder system folder

-- the path of a folder: that in PWD if it is one of the folder, and otherwise the one without links
abbrev pub path_of : System → List ℕ → Option (List ℕ)
path_of system folder = path_by system folder (system VARIABLE (codes "PWD"))

-- Where it ends

abbrev pub without_slash : List ℕ → List ℕ
without_slash name = if ends_with_slash name && not (length name == 1) then take (length name - 1) name else name

-- the folder that a part of GIT_CEILING_DIRECTORIES names: without links, if those count and it begins at the root
abbrev pub ceiling : System → Bool → List ℕ → List ℕ
ceiling system resolves part =
    if resolves && begins (codes "/") part then or_itself part (system REAL part) else without_slash part

-- whether links count in a part: they did before it, and it is not empty
abbrev pub counts : Bool → List ℕ → Bool
counts resolves part = resolves && not (length part == 0)

-- the folders that a text names between colons, of which these bytes of the first part are read. Links count up to
-- the first empty part.
abbrev pub ceilings_in : System → Bool → List ℕ → List ℕ → List (List ℕ)
ceilings_in system resolves part [] = ceiling system (counts resolves part) part ∷ []
ceilings_in system resolves part (b ∷ rest) = if b == 58
    then ceiling system (counts resolves part) part ∷ ceilings_in system (counts resolves part) [] rest
    else ceilings_in system resolves (part ++ (b ∷ [])) rest

-- those that are left of a text, if there is one
abbrev pub ceilings_left : System → Bool → Option (List ℕ) → List (List ℕ)
ceilings_left system resolves None = []
ceilings_left system resolves (Some text) = ceilings_in system resolves [] text

abbrev pub is_no_colon : ℕ → Bool
is_no_colon b = not (b == 58)

abbrev pub ceilings_by : System → Option (List ℕ) → List (List ℕ)
ceilings_by system None = []
ceilings_by system (Some text) = ceilings_in system true [] text

abbrev pub ceilings : System → List (List ℕ)
ceilings system = ceilings_by system (system VARIABLE (codes "GIT_CEILING_DIRECTORIES"))

-- a search that began in a folder ends before another one: that is a ceiling, or on another device
abbrev pub Ends : System → List ℕ → List ℕ → Type 0
Ends system start folder = Contains (ceilings system) folder
    ⊎ ((¬ (IsOn system (codes "GIT_DISCOVERY_ACROSS_FILESYSTEM"))) × (system DEVICE folder ≢ system DEVICE (opened start)))

-- What it finds

-- a git directory in a folder, none, or a text of GIT_DIR that names none
pub data Sought : Type 0 where
  Nowhere : Sought
  Inside : (folder : List ℕ) → GitDir → Sought
  Refused : (text : List ℕ) → Sought

-- the git directory of the first folder above this path that has one, for a search that began in a folder
pub data Above (system : System) (start : List ℕ) : List ℕ → Sought → Type 0 where
  at_root : {folder : List ℕ} {found : Sought} → parent_of folder ≡ None → found ≡ Nowhere → Above system start folder found
  at_end : {folder : List ℕ} {found : Sought} (higher : List ℕ) → parent_of folder ≡ Some higher
      → Ends system start higher → found ≡ Nowhere → Above system start folder found
  is_there : {folder : List ℕ} {found : Sought} (higher : List ℕ) (it : GitDir) → parent_of folder ≡ Some higher
      → ¬ (Ends system start higher) → find_in system start higher ≡ Some it → found ≡ Inside higher it
      → Above system start folder found
  is_further : {folder : List ℕ} {found : Sought} (higher : List ℕ) → parent_of folder ≡ Some higher
      → ¬ (Ends system start higher) → find_in system start higher ≡ None → Above system start higher found
      → Above system start folder found

abbrev pub or_refused : List ℕ → List ℕ → Option GitDir → Sought
or_refused start text None = Refused text
or_refused start text (Some it) = Inside start it

-- what GIT_DIR names in the folder in which Git starts
abbrev pub given_in : System → List ℕ → List ℕ → Sought
given_in system start text = if length text == 0 then Refused text else or_refused start text
    (checked system start (linked_or (inside start text) text IsGiven (linked system (inside start text))))

-- what Git finds from the folder in which it starts: GIT_DIR counts first, then the folder itself, then those above it
pub data Seeks (system : System) (start : List ℕ) : Sought → Type 0 where
  by_variable : {found : Sought} (text : List ℕ) → system VARIABLE (codes "GIT_DIR") ≡ Some text
      → found ≡ given_in system start text → Seeks system start found
  in_start : {found : Sought} (it : GitDir) → system VARIABLE (codes "GIT_DIR") ≡ None
      → find_in system start start ≡ Some it → found ≡ Inside start it → Seeks system start found
  in_above : {found : Sought} (lowest : List ℕ) → system VARIABLE (codes "GIT_DIR") ≡ None
      → find_in system start start ≡ None → real_folder system start ≡ Some lowest
      → Above system start lowest found → Seeks system start found
  without_path : {found : Sought} → system VARIABLE (codes "GIT_DIR") ≡ None → find_in system start start ≡ None
      → real_folder system start ≡ None → found ≡ Nowhere → Seeks system start found

-- what Git finds, and the only thing that the rule lets it find
abbrev pub OnlySeeks : System → List ℕ → Sought → Type 0
OnlySeeks system start sought = Seeks system start sought
    × ((other : Sought) → Seeks system start other → other ≡ sought)
