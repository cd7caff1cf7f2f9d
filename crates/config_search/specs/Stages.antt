-- What is right in a system of what a stage of a search holds.
--
-- Look for: where the search climbs, what is found from there on is what is found from the folder in which Git starts.
use Rattle.std.specs.Prelude.{◌≡◌, ◌++◌, ◌∷◌, ℕ, List, [], None, Some, IfSome, codes}
use Rattle.std.specs.List.{AllZip}
use Rattle.config_file.specs.declared.settings.Setting.{Setting}
use Rattle.config_file.specs.declared.settings.Settings.{Settings}
use Rattle.config_search.specs.System.{System, AreTrueIn}
use Rattle.config_search.specs.Questions.{Comes, MayName}
use Rattle.config_search.specs.Names.{opened}
use Rattle.config_search.specs.Protected.{AreProtected, IsKnown, IsSettingOfRead}
use Rattle.config_search.specs.Files.{File, AreFiles}
use Rattle.config_search.specs.Reads.{AreOpened, End, ReadEntry}
use Rattle.config_search.specs.Reading.{AreRightTexts, InRounds, IsNamedSafe, IsOpening, IsOther, texts_in}
use Rattle.config_search.specs.Rule as rule
use Rattle.config_search.specs.Rule.{find_in}
use Rattle.config_search.specs.Search.{Sought, Inside, Above, Seeks, path_of, start_of}
use Rattle.config_search.specs.Answers.{Does as IsDone}
use Rattle.config_search.specs.Trust.{IsTrusted}
use Rattle.config_search.specs.Shown.{AreLimits, common_of, found_of, git_dir_of}
use Rattle.config_search.specs.declared.TheConstants.{REAL, VARIABLE}
use Rattle.config_search.specs.declared.fact.Fact.{Fact}
use Rattle.config_search.specs.declared.format.Format.{Format}
use Rattle.config_search.specs.declared.owner.Naming.{Naming}
use Rattle.config_search.specs.declared.place.Site.{Site}
use Rattle.config_search.specs.declared.protected.Collected.{Collected}
use Rattle.config_search.specs.declared.rounds.Rounds.{Rounds}
use Rattle.config_search.specs.declared.texts.Opening.{Opening}
use Rattle.config_search.specs.declared.seek.Folder.{Folder}
use Rattle.config_search.specs.declared.seek.Limits.{Limits}
use Rattle.config_search.specs.declared.stages.Climb.{Climb}
use Rattle.config_search.specs.declared.stages.Climb.TheVariants as climb
use Rattle.config_search.specs.declared.stages.Stage.{Stage}
use Rattle.config_search.specs.declared.stages.Stage.TheVariants.{Begins, Starts, Bounds, Climbs, Finds}
use Rattle.config_search.specs.declared.stages.Stage.TheVariants.{Has, Opens, Reads, Weighs, Names, Trusts}
use Rattle.config_search.specs.declared.stages.Stage.TheVariants.{States, Knows, Does}

-- the folder that a search is asked about, and the facts that it was told
pub record Told : Type 0 where
  pub folder : List ℕ
  pub facts : List Fact

-- Git starts in this folder where it is asked about one of this name
abbrev pub IsStart : System → List ℕ → Folder → Type 0
IsStart system asked start = (start.name.now ≡ start_of asked)
    × (Some start.path.now ≡ path_of system (start_of asked))

-- the git directory is the one that is found, and shares this folder
pub record IsSite (system : System) (asked : List ℕ) (site : Site) : Type 0 where
  pub start : IsStart system asked site.start
  pub folder_place : Comes system asked site.folder.name.now
  pub place : Comes system asked site.git_dir.name.items
  pub shared : common_of site.common ≡ rule.common_of system site.folder.name.now site.git_dir.name.items
  pub sought : Seeks system site.start.name.now (Inside site.folder.name.now (git_dir_of site.git_dir))

-- Git trusts it
abbrev pub IsSafeSite : System → Site → Type 0
IsSafeSite system site = IsTrusted system site.start.name.now site.folder.name.now (git_dir_of site.git_dir)

-- settings or a variable may name the folder of references, if they have one of their own
abbrev pub IsNamedBy : System → Format → Type 0
IsNamedBy system format = IfSome format.store.place (λ place. MayName system)

-- there is no git directory in the folder in which Git starts, and GIT_DIR is not set
pub record IsBounded (system : System) (asked : List ℕ) (start : Folder) (limits : Limits) : Type 0 where
  pub begun : IsStart system asked start
  pub unset : system VARIABLE (codes "GIT_DIR") ≡ None
  pub nothing : find_in system start.name.now start.name.now ≡ None
  pub are_limits : AreLimits system start.name.now limits

-- up to this folder there is no git directory, where a search began in one
pub record IsUpTo (system : System) (asked : List ℕ) (start : Folder) (limits : Limits) (at : List ℕ)
    : Type 0 where
  pub begun : IsStart system asked start
  pub are_limits : AreLimits system start.name.now limits
  pub whole : limits.rest ≡ None
  pub place : Comes system asked at
  pub goes_on : (found : Sought) → Above system start.name.now at found → Seeks system start.name.now found

-- the texts of settings that no repository can change are being opened
abbrev pub OpensProtected : System → Site → Opening → Type 0
OpensProtected system site opening =
    (files : List File) × AreFiles system [] files × IsOpening system site.start.name.now files opening

-- they are being read
pub record ReadsProtected (system : System) (start : List ℕ) (rounds : Rounds) (collected : Collected)
    : Type 0 where
  pub files : List File
  pub are_files : AreFiles system [] files
  pub opened : End
  pub are_opened : AreOpened system start files (texts_in rounds) opened
  pub are_right : AreRightTexts system start rounds opened
  pub is_known : IsKnown system rounds.known
  pub read : List ReadEntry
  pub in_rounds : InRounds system start rounds opened read
  pub are : AllZip IsSettingOfRead read collected.settings.entries.items

-- the setting of an entry is collected
abbrev pub Collects : Collected → ReadEntry → Collected → Type 0
Collects old it new = (setting : Setting) × IsSettingOfRead it setting
    × (new.settings.entries.items ≡ old.settings.entries.items ++ setting ∷ [])

-- these are the settings that no repository can change, for the folder in which Git starts
abbrev pub AreRead : System → Site → Settings → Type 0
AreRead system site settings = AreProtected system site.start.name.now settings.entries.items

-- settings are looked through for those that name the folder of a git directory that is not the user's own
pub record IsNaming (system : System) (site : Site) (naming : Naming) : Type 0 where
  pub other : IsOther system site.folder.name.now (git_dir_of site.git_dir)
  pub real : system REAL (opened site.folder.name.now) ≡ Some naming.folder.now
  pub are_read : AreRead system site naming.settings
  pub so_far : IsNamedSafe system site.start.name.now naming

abbrev pub Right : System → List ℕ → Stage → Type 0
Right system asked Begins = Unit {0}
Right system asked (Starts start) = IsStart system asked start
Right system asked (Bounds start limits) = IsBounded system asked start limits
Right system asked (Climbs start limits at) = IsUpTo system asked start limits at.now
Right system asked (Finds start found) = IsStart system asked start × Seeks system start.name.now
    (found_of found)
Right system asked (Has site) = IsSite system asked site
Right system asked (Opens site opening) = IsSite system asked site × OpensProtected system site opening
Right system asked (Reads site rounds collected) =
    IsSite system asked site × ReadsProtected system site.start.name.now rounds collected
Right system asked (Weighs site settings) = IsSite system asked site × AreRead system site settings
Right system asked (Names site naming) = IsSite system asked site × IsNaming system site naming
Right system asked (Trusts site) = IsSite system asked site × IsSafeSite system site
Right system asked (States site format) = IsSite system asked site × IsSafeSite system site × IsNamedBy
    system format
Right system asked (Knows site format) = IsSite system asked site × IsSafeSite system site × IsNamedBy
    system format
Right system asked (Does place) = IsDone system (start_of asked) (path_of system (start_of asked))
    place.outcome

-- what a stage holds is right in each system in which the facts are true
abbrev pub IsRight : List ℕ → List Fact → Stage → Type 0
IsRight asked facts stage = (system : System) → AreTrueIn system facts → Right system asked stage

-- what one step upwards comes to: what is found from there, or a folder above it from which the same is found
abbrev pub IsStep : System → List ℕ → List ℕ → List ℕ → Climb → Type 0
IsStep system asked start at (climb.Ends found) = Above system start at (found_of found)
IsStep system asked start at (climb.Goes above) = Comes system asked above.now
    × ((found : Sought) → Above system start above.now found → Above system start at found)
