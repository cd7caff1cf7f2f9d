-- What Git reads in a folder: it finds out what it does there, opens the files that it then reads, and reads them. Or what
-- it reads of texts that are given.
--
-- Look for: where no text includes a file, it is left open what conditions know. Where Git stops as it looks for the
-- repository, it reads nothing.
use Rattle.std.specs.Prelude.{◌≡◌, ℕ, List, [], Option, None, Some, true, ⊤, codes, map, option_copied, option_map}
use Rattle.config_file.specs.declared.path.Directories.{Directories}
use Rattle.config_file.specs.declared.include.Includes.{Includes}
use Rattle.config_file.specs.declared.include.Includes.TheVariants as which
use Rattle.config_file.specs.declared.include.Repository.{Repository as Conditioned}
use Rattle.config_file.specs.declared.include.Urls.TheVariants.{Known as Urls}
use Rattle.config_file.specs.declared.walk.Known.{Known}
use Rattle.config_search.specs.System.{System}
use Rattle.config_search.specs.Answers.{Answers}
use Rattle.config_search.specs.Rule.{or_itself}
use Rattle.config_search.specs.Reads.{AreOpened, End, ReadEntry, ReadsAsGit, Text, Whole, some_include}
use Rattle.config_search.specs.Shown.{file_of}
use Rattle.config_search.specs.declared.TheConstants.{REAL, VARIABLE}
use Rattle.config_search.specs.declared.answer.Answer.{Answer}
use Rattle.config_search.specs.declared.answer.Outcome.{Outcome}
use Rattle.config_search.specs.declared.answer.Outcome.TheVariants.{Uses, FindsNone, Refuses, Stops}
use Rattle.config_search.specs.declared.answer.Repository.{Repository}
use Rattle.config_search.specs.declared.known.Follows.{Follows}
use Rattle.config_search.specs.declared.known.Follows.TheVariants.{Nothing, AsGit, Everything}

abbrev pub home : System → Option (List ℕ)
home system = system VARIABLE (codes "HOME")

-- a home folder without links, if the system knows it so
abbrev pub without_links : System → Option (List ℕ) → Option (List ℕ)
without_links system None = None
without_links system (Some name) = Some (or_itself name (system REAL name))

-- conditions ask about this repository
abbrev pub IsAbout : System → Repository → Conditioned → Type 0
IsAbout system repository it = (it.real_git_dir.now ≡ repository.real_git_dir.items)
    × (it.git_dir.now ≡ repository.git_dir.items)
    × (option_copied it.branch ≡ option_map (λ name. name.items) repository.branch)
    × (option_copied it.real_home ≡ without_links system (home system))

-- conditions ask about the repository that Git uses, if it uses one
abbrev pub IsAboutUsed : System → Outcome → Option Conditioned → Type 0
IsAboutUsed system (Uses repository) (Some it) = IsAbout system repository it
IsAboutUsed system (Uses repository) None = ⊥
IsAboutUsed system FindsNone it = it ≡ None
IsAboutUsed system (Refuses refusal) it = it ≡ None
IsAboutUsed system (Stops stop) it = it ≡ None

-- which includes are followed, before the URLs of remotes are sought
abbrev pub AreFollowed : System → Follows → Outcome → Includes → Type 0
AreFollowed system Nothing outcome includes = includes ≡ which.Skipped
AreFollowed system Everything outcome includes = includes ≡ which.All
AreFollowed system AsGit outcome (which.AsGit it (Urls none)) = IsAboutUsed system outcome it × (none.now ≡ [])
AreFollowed system AsGit outcome includes = ⊥

-- the folders in which files are that begin with `~/`, where some are followed
abbrev pub AreDirectories : System → Follows → Directories → Type 0
AreDirectories system Nothing directories = ⊤
AreDirectories system follows directories =
    (option_copied directories.home ≡ home system) × (option_copied directories.install_dir ≡ None)

-- Git does not stop as it looks for the repository
abbrev pub DoesNotStop : Outcome → Type 0
DoesNotStop (Uses repository) = ⊤
DoesNotStop FindsNone = ⊤
DoesNotStop (Refuses refusal) = ⊤
DoesNotStop (Stops stop) = ⊥

-- what includes ask about, where this is what Git does in the folder; that does not matter if none is followed
abbrev pub IsKnownBy : System → List ℕ → Follows → Option Answer → Known → Type 0
IsKnownBy system folder follows (Some answer) known = Answers system folder answer × DoesNotStop answer.outcome
    × AreFollowed system follows answer.outcome known.includes × AreDirectories system follows known.directories
IsKnownBy system folder Nothing None known = known.includes ≡ which.Skipped
IsKnownBy system folder follows None known = ⊥

-- what is read: all that Git reads in the folder, or these texts, where names begin in this folder
pub data Asked : Type 0 where
  Here : Asked
  These : (start : List ℕ) → List Text → Asked

-- the folder in which names begin: if nothing else is said, the one in which Git works
abbrev pub start_by : Asked → Option Answer → List ℕ
start_by Here (Some answer) = answer.folder.items
start_by Here None = []
start_by (These start texts) answer = start

-- these texts are read, up to this end
abbrev pub AreAsked : System → List ℕ → Asked → Option Answer → List Text → End → Type 0
AreAsked system folder Here (Some answer) texts opened = Answers system folder answer × DoesNotStop answer.outcome
    × AreOpened system answer.folder.items (map file_of answer.files.items) texts opened
AreAsked system folder Here None texts opened = ⊥
AreAsked system folder (These start given) answer texts opened = (texts ≡ given) × (opened ≡ Whole)

-- Git reads these entries up to this end, where it does this in the folder
pub record Reads (system : System) (folder : List ℕ) (follows : Follows) (asked : Asked) (answer : Option Answer)
    (read : List ReadEntry) (end : End) : Type 0 where
  pub texts : List Text
  pub opened : End
  pub are_asked : AreAsked system folder asked answer texts opened
  pub known : Known
  pub is_known : some_include texts ≡ true → IsKnownBy system folder follows answer known
  pub are_read : ReadsAsGit system (start_by asked answer) known texts opened read end
