-- Walks over a file and what it includes, in C.
use Rattle.std.specs.Prelude.{◌≡◌, ◌≤◌, ◌<◌, ◌^◌, ◌+◌, ℕ, List, ◌++◌, ◌∷◌, [], Option, None, Some, option_copied}
use Rattle.std.specs.Prelude.{length, take, drop}
use Rattle.std.specs.Borrow.{Bor}
use Rattle.std.specs.List.{AllZip}
use Rattle.std.specs.Option.{option_map_or}
use Rattle.config_file.specs.File.{Entry}
use Rattle.config_file.specs.Listing.{IsListed}
use Rattle.config_file.specs.Views.{entry_of}
use Rattle.config_file.specs.Walk.{Content}
use Rattle.config_file.specs.Reading.Walks.{Enters, Takes}
use Rattle.config_file.specs.declared.entry.Entry as code
use Rattle.config_file.specs.Errors.{why_number}
use Rattle.config_file.specs.declared.errors.FileError.{FileError}
use Rattle.config_file.specs.declared.errors.Why.TheVariants.{NoValue, TooDeep}
use Rattle.config_file.specs.declared.errors.Why.TheVariants as why
use Rattle.config_file.specs.declared.include.Includes.{Includes}
use Rattle.config_file.specs.declared.include.Includes.TheVariants.{AsGit, Skipped}
use Rattle.config_file.specs.declared.include.Repository.{Repository}
use Rattle.config_file.specs.declared.include.Urls.{Urls}
use Rattle.config_file.specs.declared.include.Urls.TheVariants as urls_of
use Rattle.config_file.specs.declared.section.Section.{Section}
use Rattle.config_file.specs.declared.walk.Frame.{Frame}
use Rattle.config_file.specs.declared.walk.Include.{Include}
use Rattle.config_file.specs.declared.walk.Include.TheVariants.{NotFollowed, MissingValue, UnknownDirectory, Named}
use Rattle.config_file.specs.declared.walk.Include.TheVariants as what
use Rattle.config_file.specs.declared.walk.Known.{Known}
use Rattle.config_file.specs.declared.walk.FilePlace.{FilePlace}
use Rattle.config_file.specs.declared.walk.Step.{Step}
use Rattle.config_file.specs.declared.walk.Step.TheVariants as step
use Rattle.gix_config_value_c.specs.declared.files.Setting.{Setting}
use Rattle.gix_config_value_c.specs.declared.roles.Role.TheVariants as roles
use Rattle.gix_config_value_c.specs.declared.status.Status.{Status}
use Rattle.gix_config_value_c.specs.declared.status.Status.TheVariants as statuses
use Rattle.gix_config_value_c.specs.declared.walk.GcvFrame.{GcvFrame}
use Rattle.gix_config_value_c.specs.declared.walk.GcvKnown.{GcvKnown}
use Rattle.gix_config_value_c.specs.declared.walk.GcvStep.{GcvStep}
use Rattle.gix_config_value_c.specs.declared.walk.Texts.{Texts}
use Rattle.gix_config_value_c.specs.Files.{ended, setting_bytes, value_of, IsSettingOf}
use Rattle.gix_config_value_c.specs.Numbers.{status_number, role_number, flag_number}
use Rattle.gix_config_value_c.specs.Paths.{IsGiven, HasBadFlag}
use Rattle.gix_config_value_c.specs.Roles.{HasRole}

-- ---- frames

-- the section that a frame holds: none, one with a name, or one with a subsection too
pub data HoldsSection (frame : GcvFrame) : Option Section → Type 0 where
  none : frame.parts ≡ 0 → HoldsSection frame None
  plain : frame.parts ≡ 1 → HoldsSection frame (Some (record { name = frame.section; subsection = None }))
  within : frame.parts ≡ 2 → HoldsSection frame
      (Some (record { name = frame.section; subsection = Some (record { raw = frame.subsection }) }))

-- the frame holds this one of a walk, whose lines can be counted
pub record HoldsFrame (frame : GcvFrame) (held : Frame) : Type 0 where
  pub name : held.place.name ≡ frame.name
  pub real_dir : held.place.real_dir ≡ frame.real_dir
  pub section : HoldsSection frame held.entries.section
  pub line : held.entries.line ≡ frame.line
  pub rest : held.entries.rest ≡ frame.rest
  pub fits : frame.line + length frame.rest.now < 2 ^ 63 + 2
  pub forbids : frame.forbids_urls ≡ flag_number held.forbids_urls

-- a frame is written behind the others, which holds the whole text of the file with this name, in this
-- directory; or there are eleven frames already
pub data EntersInto (count : ℕ) (frame : GcvFrame) (name real_dir text : List ℕ) (count' : ℕ) (frame' : GcvFrame)
    (status : ℕ) : Type 0 where
  entered : (place : FilePlace) (held : Frame) → count < 11 → place.name.now ≡ name → place.real_dir.now ≡ real_dir
      → Enters [] place text (held ∷ []) → HoldsFrame frame' held → count' ≡ count + 1
      → status ≡ status_number statuses.Ok
      → EntersInto count frame name real_dir text count' frame' status
  too_deep : 11 ≤ count → count' ≡ count → frame' ≡ frame → status ≡ why_number TooDeep
      → EntersInto count frame name real_dir text count' frame' status

-- ---- what is known

-- the flags of what is known
abbrev pub flags : GcvKnown → List ℕ
flags known = known.has_install_dir ∷ known.has_home ∷ known.has_repository ∷ known.has_branch
    ∷ known.has_real_home ∷ known.seeks_urls ∷ known.follows ∷ []

-- the repository is the given one: the git directory with its flag (0: no repository), the git directory with
-- links resolved, the branch, and the home directory with links resolved
abbrev pub IsRepository : GcvKnown → Option Repository → Type 0
IsRepository known None = known.has_repository ≡ 0
IsRepository known (Some r) = IsGiven (known.has_repository, known.git_dir.now) (Some r.git_dir.now)
    × (r.real_git_dir.now ≡ known.real_git_dir.now)
    × IsGiven (known.has_branch, known.branch.now) (option_copied r.branch)
    × IsGiven (known.has_real_home, known.real_home.now) (option_copied r.real_home)

-- the URLs of remotes are the given ones, or they are being sought, by the flag for that
abbrev pub AreUrls : ℕ → Bor (List (Bor (List ℕ))) → Urls → Type 0
AreUrls seeks given urls_of.Sought = seeks ≡ 1
AreUrls seeks given (urls_of.Known urls) = (seeks ≡ 0) × (urls.now ≡ given.now)

-- which includes are followed
pub data AreIncludes (known : GcvKnown) : Includes → Type 0 where
  skipped : known.follows ≡ 0 → AreIncludes known Skipped
  as_git : (repository : Option Repository) (urls : Urls) → known.follows ≡ 1 → IsRepository known repository
      → AreUrls known.seeks_urls known.urls urls → AreIncludes known (AsGit repository urls)

-- this is known, by its flags
pub record IsKnown (known : GcvKnown) (is : Known) : Type 0 where
  pub install_dir : IsGiven (known.has_install_dir, known.install_dir.now) (option_copied is.directories.install_dir)
  pub home : IsGiven (known.has_home, known.home.now) (option_copied is.directories.home)
  pub includes : AreIncludes known is.includes

-- ---- steps

-- the name of the file that is included
abbrev pub name_in : Include → Option (List ℕ)
name_in (Named name) = Some name.items
name_in include = None

-- the number of the status that says what an entry includes, or why Git stops there
abbrev pub include_status : Include → ℕ
include_status NotFollowed = status_number statuses.NoInclude
include_status MissingValue = why_number NoValue
include_status UnknownDirectory = why_number why.UnknownDirectory
include_status what.ForbiddenUrl = why_number why.ForbiddenUrl
include_status (Named name) = status_number statuses.Ok

-- the texts of an entry: those of its setting, and the name of the file that it includes; and its role
abbrev pub AreTextsOf : Entry → Include → Texts → Type 0
AreTextsOf entry include texts = (setting : Setting) × IsSettingOf entry setting
    × (texts.bytes.items ≡ setting_bytes setting ++ option_map_or ended (name_in include) [])
    × (texts.value ≡ length (ended setting.key.items)) × (texts.included ≡ length (setting_bytes setting))
    × (texts.has_value ≡ option_map_or (λ v. 1) (value_of setting) 0)
    × ((listed : List ℕ) → IsListed entry.section entry.key listed → HasRole entry texts.role)

-- what is told of an entry
abbrev pub step_struct : FilePlace → code.Entry → Include → Texts → GcvStep
step_struct place entry include texts = record {
  name = place.name;
  line = entry.line;
  value = texts.value;
  included = texts.included;
  size = length texts.bytes.items;
  has_value = texts.has_value;
  include = include_status include;
  role = role_number texts.role;
}

-- what is told of a line that is refused
abbrev pub line_struct : FilePlace → FileError → GcvStep
line_struct place error = record {
  name = place.name;
  line = error.line;
  value = 0;
  included = 0;
  size = 0;
  has_value = 0;
  include = status_number statuses.NoInclude;
  role = role_number roles.Plain;
}

-- with what is known, this step leads from the walk that the C frames hold to the walk of these frames
abbrev pub StepsFrom : List GcvFrame → GcvKnown → Step → List Frame → Type 0
StepsFrom frames given step new = (known : Known) × (old : List Frame) × IsKnown given known
    × (length old ≤ 11) × AllZip HoldsFrame frames old × ((answers : List (List ℕ × Content)) → Takes answers known old step new)

-- the step is told: an entry with its texts, a line that is refused, or the end of the walk
abbrev pub TellsStep : Step → List ℕ → List ℕ → GcvStep → GcvStep → ℕ → Type 0
TellsStep (step.Entry place entry include) buffer buffer' out out' status =
    (texts : Texts) × AreTextsOf (entry_of entry) include texts × (out' ≡ step_struct place entry include texts)
    × (length texts.bytes.items ≤ length buffer)
    × (buffer' ≡ texts.bytes.items ++ drop (length texts.bytes.items) buffer) × (status ≡ status_number statuses.Ok)
TellsStep (step.Line place error) buffer buffer' out out' status = (buffer' ≡ buffer)
    × (out' ≡ line_struct place error) × (status ≡ why_number error.why)
TellsStep step.Ends buffer buffer' out out' status =
    (buffer' ≡ buffer) × (out' ≡ out) × (status ≡ status_number statuses.Absent)

-- A step is taken and told, and the first frames hold the walk that is left, as many as are told. Or the buffer is too short for the
-- texts of the entry, memory is refused, a flag is bad, or the frames hold no walk; then the walk stays as it is.
pub data NextInto (frames : List GcvFrame) (count : ℕ) (known : GcvKnown) (buffer : List ℕ) (out : GcvStep)
    (frames' : List GcvFrame) (count' : ℕ) (buffer' : List ℕ) (out' : GcvStep) (status : ℕ) : Type 0 where
  told : (taken : Step) (new : List Frame) → StepsFrom frames known taken new
      → count' ≡ length new → AllZip HoldsFrame (take count' frames') new → TellsStep taken buffer buffer' out out' status
      → NextInto frames count known buffer out frames' count' buffer' out' status
  short : (place : FilePlace) (entry : code.Entry) (include : Include) (new : List Frame) (texts : Texts)
      → StepsFrom frames known (step.Entry place entry include) new → AreTextsOf (entry_of entry) include texts
      → length buffer < length texts.bytes.items → out' ≡ step_struct place entry include texts
      → frames' ≡ frames → count' ≡ count → buffer' ≡ buffer → status ≡ status_number statuses.ShortBuffer
      → NextInto frames count known buffer out frames' count' buffer' out' status
  no_memory : frames' ≡ frames → count' ≡ count → buffer' ≡ buffer → out' ≡ out
      → status ≡ status_number statuses.NoMemory
      → NextInto frames count known buffer out frames' count' buffer' out' status
  bad_flag : HasBadFlag (flags known) → frames' ≡ frames → count' ≡ count → buffer' ≡ buffer → out' ≡ out
      → status ≡ status_number statuses.BadFlag
      → NextInto frames count known buffer out frames' count' buffer' out' status
  no_walk : ((old : List Frame) → length old ≤ 11 → ¬ (AllZip HoldsFrame frames old)) → frames' ≡ frames
      → count' ≡ count → buffer' ≡ buffer → out' ≡ out → status ≡ status_number statuses.BadLengths
      → NextInto frames count known buffer out frames' count' buffer' out' status
