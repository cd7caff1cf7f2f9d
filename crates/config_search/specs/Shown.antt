-- What the rule says of the values of the program.
use Rattle.std.specs.Prelude.{◌≡◌, ◌++◌, ◌⊎◌, ◌==◌, ◌&&◌, ℕ, Bool, true, false, List, [], ◌∷◌, Option, None}
use Rattle.std.specs.Prelude.{Some, if◌then◌else◌, IfSome, MatchBool, codes, map, option_copied}
use Rattle.std.specs.Global.{Vec}
use Rattle.std.specs.HashMap.{HashMap, get_by}
use Rattle.std.specs.Str.{bytes_eq}
use Rattle.config_file.specs.Key.{Key, HasKey}
use Rattle.config_file.specs.Settings.{path_bytes}
use Rattle.config_file.specs.Views.{entry_of}
use Rattle.config_file.specs.declared.settings.Setting.{Setting}
use Rattle.config_search.specs.System.{System, AreTrueIn, IsOpen}
use Rattle.config_search.specs.Names.{opened}
use Rattle.config_search.specs.Questions.{IsNeeded, MayName}
use Rattle.config_search.specs.declared.fact.Fact.{Fact}
use Rattle.config_search.specs.declared.fact.Pause.{Pause}
use Rattle.config_search.specs.declared.fact.Recent.{Recent}
use Rattle.config_search.specs.declared.fact.Pause.TheVariants.{Ask, Memory}
use Rattle.config_search.specs.declared.halt.Halt.{Halt}
use Rattle.config_search.specs.declared.halt.Halt.TheVariants.{Pauses, Stops, Fails}
use Rattle.config_search.specs.Rule as rule
use Rattle.config_search.specs.Search as search
use Rattle.config_search.specs.Files.{File}
use Rattle.config_search.specs.Trust.{NamesFolder}
use Rattle.config_search.specs.declared.TheConstants.{DEVICE}
use Rattle.config_search.specs.declared.answer.Named.{Named}
use Rattle.config_search.specs.declared.seek.Discovery.{Discovery}
use Rattle.config_search.specs.declared.seek.Discovery.TheVariants.{Nothing, In, Refused}
use Rattle.config_search.specs.declared.seek.Limits.{Limits}
use Rattle.config_search.specs.declared.format.Store.{Store}
use Rattle.config_search.specs.declared.git_dir.Common.{Common}
use Rattle.config_search.specs.declared.seek.Form.{Form}
use Rattle.config_search.specs.declared.seek.Form.TheVariants.{Given, Below, Bare}
use Rattle.config_search.specs.declared.seek.GitDir.{GitDir}
use Rattle.config_search.specs.declared.git_dir.Common.TheVariants.{Own, Linked, Broken}

-- the first fact that answers a question
abbrev pub first_of : List Fact → ℕ → List ℕ → Option Fact
first_of [] subject name = None
first_of (fact ∷ rest) subject name =
    if (fact.subject == subject) && bytes_eq fact.name.now name then Some fact else first_of rest subject name

-- a map has the first fact of a list that answers a question
abbrev pub AreFirst : {S : Type 0} → HashMap (ℕ × Vec ℕ) Fact S → List Fact → Type 0
AreFirst facts list = (q : ℕ × Vec ℕ)
    → get_by (λ k. (q.0 == k.0) && bytes_eq q.1.items k.1.items) facts ≡ first_of list q.0 q.1.items

-- no fact before it answers its question
abbrev pub IsFirst : List Fact → Fact → Type 0
IsFirst list fact = first_of list fact.subject fact.name.now ≡ Some fact

-- the facts that are kept apart are such
abbrev pub AreRecent : List Fact → Recent → Type 0
AreRecent list recent =
    IfSome recent.last (IsFirst list) × IfSome recent.before (IsFirst list) × IfSome recent.third
    (IsFirst list)

-- a question at which a search in a folder pauses is one that it needs, and that no fact answers
abbrev pub IsNew : List ℕ → List Fact → Pause → Type 0
IsNew folder facts (Ask question) = IsOpen facts question.subject question.name.items
    × IsNeeded folder facts question.subject question.name.items
IsNew folder facts (Memory error) = Unit {0}

-- a file that the program names
abbrev pub file_of : Named → File
file_of named = record { scope = named.scope; name = named.name.items }

-- after a setting a folder is safe: it has the key and names it, or it was safe before and this is no empty one
abbrev pub IsSafeAfter : System → List ℕ → List ℕ → Key → Setting → Bool → Type 0
IsSafeAfter system start folder key setting was_safe =
    (HasKey (entry_of setting.entry) key × NamesFolder system start (path_bytes setting) folder)
    ⊎ ((was_safe ≡ true) × ¬ (HasKey (entry_of setting.entry) key × (path_bytes setting ≡ [])))

-- the folder that the program says is shared
abbrev pub common_of : Common → rule.Common
common_of Own = rule.Own
common_of (Linked folder) = rule.Linked folder.items
common_of Broken = rule.Broken

-- the folder of a git directory that shares it
abbrev pub folder_in : List ℕ → Common → List ℕ
folder_in git_dir Own = git_dir
folder_in git_dir (Linked folder) = folder.items
folder_in git_dir Broken = git_dir

-- settings or a variable may name the folder of references, if they have one of their own
abbrev pub IsStore : List Fact → Store → Type 0
IsStore facts store = IfSome store.place (λ place. (system : System) → AreTrueIn system facts → MayName
    system)

-- how the program says that a git directory is named
abbrev pub form_of : Form → rule.Form
form_of Given = rule.IsGiven
form_of Below = rule.IsBelow
form_of Bare = rule.IsBare

-- the git directory that the program shows
abbrev pub git_dir_of : GitDir → rule.GitDir
git_dir_of it = record { name = it.name.items; named = it.named.items; form = form_of it.form }

-- what the program finds
abbrev pub found_of : Discovery → search.Sought
found_of Nothing = search.Nowhere
found_of (In folder it) = search.Inside folder.name.now (git_dir_of it)
found_of (Refused text) = search.Refused text.now

-- where a search ends that began in a folder, as the program keeps it
abbrev pub AreLimits : System → List ℕ → Limits → Type 0
AreLimits system start limits = (search.ceilings system ≡ map (λ c. c.now) limits.ceilings.items
    ++ search.ceilings_left system limits.is_resolved (option_copied limits.rest))
    × MatchBool limits.crosses (search.IsOn system (codes "GIT_DISCOVERY_ACROSS_FILESYSTEM"))
    (¬ (search.IsOn system (codes "GIT_DISCOVERY_ACROSS_FILESYSTEM")))
    × (limits.crosses ≡ false → option_copied limits.device ≡ system DEVICE (opened start))

-- so is one at which the part of a search that reads settings pauses
abbrev pub IsNewHalt : List ℕ → List Fact → Halt → Type 0
IsNewHalt folder facts (Pauses pause) = IsNew folder facts pause
IsNewHalt folder facts (Stops stop) = Unit {0}
IsNewHalt folder facts (Fails error) = Unit {0}

-- it is no question at which the search pauses
abbrev pub AsksNothing : Halt → Type 0
AsksNothing halt = (folder : List ℕ) (facts : List Fact) → IsNewHalt folder facts halt
