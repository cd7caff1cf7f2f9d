-- Which questions a search may ask: about variables, and about files in the places to which it comes.
--
-- Look for: a place is a folder or a link to which the folder asked about, an answer or a variable leads. The names of
-- `SETTINGS`, `INCLUDED`, `REFUSAL`, `REAL`, `HOME` and `READABLE` are free, since settings or variables give them, whose
-- values are unquoted, and that of `KEEP` is a text that the search makes. So is the folder of references free where
-- settings or GIT_REFERENCE_BACKEND may name it, and the name of a reference as far as it stays below that folder.
use Rattle.std.specs.Prelude.{◌≡◌, ℕ, Bool, true, false, List, [], ◌∷◌, ◌++◌, Some, ◌==◌, ◌||◌, ◌&&◌, codes, decimal}
use Rattle.std.specs.Str.{bytes_eq}
use Rattle.bstr.specs.Text.{Contains}
use Rattle.config_search.specs.System.{System, AreTrueIn}
use Rattle.config_search.specs.Names.{begins, inside, opened, folder_of, line}
use Rattle.config_search.specs.Rule.{given_in, linked}
use Rattle.config_search.specs.Search.{start_of}
use Rattle.config_search.specs.declared.fact.Fact.{Fact}
use Rattle.config_search.specs.declared.TheConstants.{VARIABLE, CURRENT, KIND, LEADS, LINK, REAL, TEXT, BLOCK, SETTINGS, INCLUDED, REFUSAL, DEVICE, IDENTITY, OWNER, USER, HOME, READABLE, KEEP}

abbrev pub is_among : List (List ℕ) → List ℕ → Bool
is_among [] name = false
is_among (it ∷ rest) name = bytes_eq name it || is_among rest name

abbrev pub is_one_of : List ℕ → ℕ → Bool
is_one_of [] subject = false
is_one_of (it ∷ rest) subject = (subject == it) || is_one_of rest subject

-- the variables that name a file in the folder in which Git starts
abbrev pub names_file : List ℕ → Bool
names_file = is_among (codes "PWD" ∷ codes "GIT_DIR" ∷ codes "GIT_OBJECT_DIRECTORY" ∷ [])

-- the variables at which Git looks
abbrev pub is_variable : List ℕ → Bool
is_variable name = names_file name || is_among (codes "GIT_CEILING_DIRECTORIES"
    ∷ codes "GIT_DISCOVERY_ACROSS_FILESYSTEM" ∷ codes "GIT_COMMON_DIR" ∷ codes "GIT_WORK_TREE"
    ∷ codes "GIT_REFERENCE_BACKEND" ∷ codes "GIT_CONFIG_NOSYSTEM" ∷ codes "GIT_CONFIG_SYSTEM"
    ∷ codes "GIT_CONFIG_GLOBAL" ∷ codes "XDG_CONFIG_HOME" ∷ codes "HOME" ∷ codes "GIT_CONFIG_COUNT"
    ∷ codes "GIT_CONFIG_PARAMETERS" ∷ codes "GIT_TEST_ASSUME_DIFFERENT_OWNER" ∷ codes "SUDO_UID" ∷ []) name

-- and those with a number, which GIT_CONFIG_COUNT counts
pub data IsNumbered : List ℕ → Type 0 where
  key : (number : ℕ) → IsNumbered (codes "GIT_CONFIG_KEY_" ++ decimal number)
  value : (number : ℕ) → IsNumbered (codes "GIT_CONFIG_VALUE_" ++ decimal number)

-- the places to which a search in this folder comes in a system
pub data Comes (system : System) (folder : List ℕ) : List ℕ → Type 0 where
  in_start : Comes system folder (start_of folder)
  in_current : {at : List ℕ} → system CURRENT [] ≡ Some at → Comes system folder at
  by_variable : {at variable text : List ℕ} → Comes system folder at → names_file variable ≡ true
      → system VARIABLE variable ≡ Some text → Comes system folder (inside at text)
  by_common : {at text : List ℕ} → Comes system folder at → system VARIABLE (codes "GIT_COMMON_DIR") ≡ Some text
      → Comes system folder (given_in at text)
  also_opened : {at : List ℕ} → Comes system folder at → Comes system folder (opened at)
  without_links : {at real : List ℕ} → Comes system folder at → system REAL at ≡ Some real → Comes system folder real
  above : {at : List ℕ} → Comes system folder at → Comes system folder (folder_of at)
  in_dot_git : {at : List ℕ} → Comes system folder at → Comes system folder (inside at (codes ".git"))
  where_linked : {at other : List ℕ} → Comes system folder at → linked system at ≡ Some other → Comes system folder other
  in_commondir : {at text : List ℕ} → Comes system folder at → system TEXT (inside at (codes "commondir")) ≡ Some text
      → Comes system folder (inside at (line text))

-- settings or a variable may name the folder in which references are kept
pub data MayName (system : System) : Type 0 where
  by_settings : {name text : List ℕ} → system SETTINGS name ≡ Some text → MayName system
  by_backend : {text : List ℕ} → system VARIABLE (codes "GIT_REFERENCE_BACKEND") ≡ Some text → MayName system

-- the folders in which references may be kept
pub data Keeps (system : System) (folder : List ℕ) : List ℕ → Type 0 where
  in_place : {at : List ℕ} → Comes system folder at → Keeps system folder at
  in_named : {at : List ℕ} → MayName system → Keeps system folder at

abbrev pub tables : List ℕ → List ℕ
tables at = inside at (codes "reftable")

-- what is asked of which files in a place
abbrev pub is_of_part : ℕ → List ℕ → Bool
is_of_part subject name = (is_one_of (KIND ∷ TEXT ∷ []) subject && is_among (codes "HEAD" ∷ codes "commondir" ∷ []) name)
    || (is_one_of (LEADS ∷ []) subject && is_among (codes "objects" ∷ codes "refs" ∷ []) name)
    || (is_one_of (LINK ∷ []) subject && is_among (codes "HEAD" ∷ []) name)

-- the name of a reference stays below its folder
abbrev pub StaysBelow : List ℕ → Type 0
StaysBelow name = (begins (codes "/") name ≡ false) × ¬ (Contains name (codes ".."))

-- a part of a text
pub data IsIn (text part : List ℕ) : Type 0 where
  between : (before after : List ℕ) → text ≡ before ++ part ++ after → IsIn text part

-- a question about a file: about a place itself, a file in it, a reference, the list of its tables, or a table
pub data Asks (system : System) (folder : List ℕ) : ℕ → List ℕ → Type 0 where
  of_place : {subject : ℕ} {at : List ℕ} → is_one_of (KIND ∷ LEADS ∷ TEXT ∷ DEVICE ∷ IDENTITY ∷ OWNER ∷ []) subject ≡ true
      → Comes system folder at → Asks system folder subject at
  of_part : {subject : ℕ} {at : List ℕ} (name : List ℕ) → is_of_part subject name ≡ true → Comes system folder at
      → Asks system folder subject (inside at name)
  of_reference : {subject : ℕ} {at : List ℕ} (name : List ℕ) → is_one_of (KIND ∷ LEADS ∷ LINK ∷ TEXT ∷ []) subject ≡ true
      → Keeps system folder at → StaysBelow name → Asks system folder subject (inside at name)
  of_tables : {at : List ℕ} → Keeps system folder at → Asks system folder TEXT (inside (tables at) (codes "tables.list"))
  of_table : {subject : ℕ} {at text table : List ℕ} → is_one_of (TEXT ∷ BLOCK ∷ []) subject ≡ true → Keeps system folder at
      → system TEXT (inside (tables at) (codes "tables.list")) ≡ Some text → IsIn text table
      → Asks system folder subject (inside (tables at) table)

abbrev pub either : Bool → Type 0 → Type 0 → Type 0
either true this that = this
either false this that = that

-- a question that a search in this folder may ask in a system
abbrev pub Needs : System → List ℕ → ℕ → List ℕ → Type 0
Needs system folder subject name = either (subject == VARIABLE) (either (is_variable name) (Unit {0}) (IsNumbered name))
    (either (is_one_of (CURRENT ∷ USER ∷ []) subject) (name ≡ [])
    (either (is_one_of (SETTINGS ∷ INCLUDED ∷ REFUSAL ∷ REAL ∷ HOME ∷ READABLE ∷ KEEP ∷ []) subject) (Unit {0}) (Asks system folder subject name)))

-- it may ask this in each system in which the facts are true
abbrev pub IsNeeded : List ℕ → List Fact → ℕ → List ℕ → Type 0
IsNeeded folder facts subject name = (system : System) → AreTrueIn system facts → Needs system folder subject name

-- it comes there in each of them
abbrev pub IsPlace : List ℕ → List Fact → List ℕ → Type 0
IsPlace folder facts name = (system : System) → AreTrueIn system facts → Comes system folder name

-- references may be kept there in each of them
abbrev pub IsKept : List ℕ → List Fact → List ℕ → Type 0
IsKept folder facts name = (system : System) → AreTrueIn system facts → Keeps system folder name
