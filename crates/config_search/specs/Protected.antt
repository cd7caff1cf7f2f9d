-- The settings that no repository can change: those of the system, of the user and of the command, with what they include.
--
-- Look for: no repository is known to their conditions, and Git does not stop in one of their texts.
use Rattle.std.specs.Prelude.{◌≡◌, ℕ, List, [], None, codes, option_copied}
use Rattle.std.specs.List.{AllZip}
use Rattle.config_file.specs.Settings.{IsSettingOf}
use Rattle.config_file.specs.declared.include.Includes.{Includes}
use Rattle.config_file.specs.declared.include.Includes.TheVariants.{AsGit}
use Rattle.config_file.specs.declared.include.Urls.TheVariants.{Known as Urls}
use Rattle.config_file.specs.declared.settings.Setting.{Setting}
use Rattle.config_file.specs.declared.walk.Known.{Known}
use Rattle.config_search.specs.System.{System}
use Rattle.config_search.specs.Files.{File, AreFiles}
use Rattle.config_search.specs.Reads.{End, ReadEntry, Text, Whole, AreOpened, ReadsAsGit}
use Rattle.config_search.specs.declared.TheConstants.{VARIABLE}

-- conditions know of no repository, and of no URL before these are sought
abbrev pub IsOutside : Includes → Type 0
IsOutside (AsGit None (Urls none)) = none.now ≡ []
IsOutside includes = ⊥

abbrev pub IsKnown : System → Known → Type 0
IsKnown system known = IsOutside known.includes
    × (option_copied known.directories.home ≡ system VARIABLE (codes "HOME"))
    × (option_copied known.directories.install_dir ≡ None)

-- the setting of an entry that is read
abbrev pub IsSettingOfRead : ReadEntry → Setting → Type 0
IsSettingOfRead it setting = IsSettingOf (it.file, it.entry) setting × (setting.scope ≡ it.scope)

-- these are the settings that no repository can change, for a search that begins in this folder
pub record AreProtected (system : System) (start : List ℕ) (settings : List Setting) : Type 0 where
  pub known : Known
  pub is_known : IsKnown system known
  pub files : List File
  pub are_files : AreFiles system [] files
  pub texts : List Text
  pub opened : End
  pub are_opened : AreOpened system start files texts opened
  pub found : List ReadEntry
  pub reads : ReadsAsGit system start known texts opened found Whole
  pub are : AllZip IsSettingOfRead found settings
