-- The walk over the entries of a file and of the files that it includes, in Git's order.
--
-- Look for: `Known` has the includes that are followed: only `AsGit` follows those that Git does, while
-- `Skipped` and `All` are for callers who want none or all. In `Walks` the entry that includes comes before
-- the entries of its file, and these before the rest. Only a `cut` walk ends early. `less + 1` bounds the
-- depth, and `WalksText` begins with 10. `forbidden_url`: Git stops at the URL of a remote in a file that a
-- condition on URLs includes, directly or not, and while it seeks them in one that any condition includes
-- (`Forbids` in `Include`).
use Rattle.std.specs.Prelude.{◌≡◌, ℕ, ◌+◌, ◌||◌, Bool, true, false, List, [], ◌∷◌, ◌++◌, Option, None, Some}
use Rattle.std.specs.Prelude.{option_copied}
use Rattle.config_file.specs.File.{Entry, IsFile}
use Rattle.config_file.specs.Value.{Ending, SpellsValue}
use Rattle.config_file.specs.Include.{EntryFollows, Forbids, IsForbidden}
use Rattle.config_file.specs.Path.{Expands, BeginsUnknown, IsIncludedName}
use Rattle.config_file.specs.declared.path.Directories.{Directories}
use Rattle.config_file.specs.declared.walk.FilePlace.{FilePlace}
use Rattle.config_file.specs.declared.walk.Known.{Known}
use Rattle.config_file.specs.declared.walk.Include.{Include}
use Rattle.config_file.specs.declared.walk.Include.TheVariants.{NotFollowed, MissingValue, UnknownDirectory}
use Rattle.config_file.specs.declared.walk.Include.TheVariants as what
use Rattle.config_file.specs.declared.walk.Include.TheVariants.{Named}
use Rattle.config_file.specs.declared.errors.FileError.{FileError}

-- the name of the file that a value includes, in the file of this name
abbrev pub IsNameOf : Directories → List ℕ → List ℕ → List ℕ → Type 0
IsNameOf directories file value name =
    (path : List ℕ) × Expands (option_copied directories.home) (option_copied directories.install_dir) value path
    × IsIncludedName file path name

-- each value that these bytes spell includes the file of this name
abbrev pub SpellsName : Known → List ℕ → List ℕ → List ℕ → Type 0
SpellsName known file raw name =
    (text : List ℕ) (ending : Ending) → SpellsValue raw text ending → IsNameOf known.directories file text name

-- each value that these bytes spell begins with a user's name, or with a directory that is not known
abbrev pub SpellsUnknown : Known → List ℕ → Type 0
SpellsUnknown known raw = (text : List ℕ) (ending : Ending) → SpellsValue raw text ending
    → BeginsUnknown (option_copied known.directories.home) (option_copied known.directories.install_dir) text

-- the entry of this file is followed to the file of this name
abbrev pub IncludesFile : Known → FilePlace → Entry → List ℕ → Type 0
IncludesFile known place entry name = EntryFollows known.includes place.real_dir.now entry true
    × ((raw : List ℕ) × (entry.value ≡ Some raw) × SpellsName known place.name.now raw name)

-- what an entry of this file includes
abbrev pub IsInclude : Known → FilePlace → Entry → Include → Type 0
IsInclude known place entry NotFollowed = EntryFollows known.includes place.real_dir.now entry false
IsInclude known place entry MissingValue =
    EntryFollows known.includes place.real_dir.now entry true × (entry.value ≡ None)
IsInclude known place entry UnknownDirectory = EntryFollows known.includes place.real_dir.now entry true
    × ((raw : List ℕ) × (entry.value ≡ Some raw) × SpellsUnknown known raw)
IsInclude known place entry what.ForbiddenUrl = ⊥
IsInclude known place entry (Named name) = IncludesFile known place entry name.items

-- what the file of a name holds: a text, in a directory with this real path; no such file; or none to be read
pub data Content : Type 0 where
  Text : (real_dir text : List ℕ) → Content
  Missing : Content
  Unreadable : Content

-- the file of each name holds one thing at most
abbrev pub HasOneContent : (List ℕ → Content → Type 0) → Type 0
HasOneContent contents = (name : List ℕ) (a b : Content) → contents name a → contents name b → a ≡ b

-- where Git stops: at a line that it cannot read, at an entry that it cannot follow, or at the URL of a remote in a
-- file where it allows none
pub data Stop : Type 0 where
  Line : FileError → Stop
  NoValue : Entry → Stop
  Unknown : Entry → Stop
  NotRead : Entry → Stop
  TooDeep : Entry → Stop
  ForbiddenUrl : Entry → Stop

-- what a walk comes to: an entry, or a place where Git stops
pub data Item : Type 0 where
  Found : Entry → Item
  Stops : Stop → Item

-- an item, in the file of this place
abbrev pub in_file : FilePlace → Item → List ℕ × Item
in_file place item = (place.name.now, item)

-- At most this many includes deep, a walk of these entries of a file, up to the end of its text or to this
-- error, comes to these items: to each entry, and then to the items of the file that it includes. The first flag
-- says that Git allows no URL of a remote in the file. The walk may be cut anywhere unless the second flag says
-- that it is whole. `contents` says what the file of a name holds.
pub data Walks (contents : List ℕ → Content → Type 0) (known : Known)
    : ℕ → Bool → FilePlace → List Entry → Option FileError → List (List ℕ × Item) → Bool → Type 0 where
  cut : {depth : ℕ} {none_allowed : Bool} {place : FilePlace} {entries : List Entry} {error : Option FileError}
      → Walks contents known depth none_allowed place entries error [] false
  ends : {depth : ℕ} {none_allowed : Bool} {place : FilePlace} {whole : Bool} → Walks contents known depth none_allowed place [] None [] whole
  line : {depth : ℕ} {none_allowed : Bool} {place : FilePlace} {error : FileError} {whole : Bool}
      → Walks contents known depth none_allowed place [] (Some error) (in_file place (Stops (Line error)) ∷ []) whole
  plain : {depth : ℕ} {none_allowed : Bool} {place : FilePlace} {entry : Entry} {entries : List Entry}
      {error : Option FileError} {items : List (List ℕ × Item)} {whole : Bool}
      → IsInclude known place entry NotFollowed → IsForbidden none_allowed entry false
      → Walks contents known depth none_allowed place entries error items whole
      → Walks contents known depth none_allowed place (entry ∷ entries) error (in_file place (Found entry) ∷ items) whole
  missing : {depth : ℕ} {none_allowed : Bool} {place : FilePlace} {entry : Entry} {entries : List Entry}
      {error : Option FileError} {items : List (List ℕ × Item)} {whole : Bool} (name : List ℕ)
      → IncludesFile known place entry name → contents name Missing
      → Walks contents known depth none_allowed place entries error items whole
      → Walks contents known depth none_allowed place (entry ∷ entries) error (in_file place (Found entry) ∷ items) whole
  included : {depth : ℕ} {none_allowed : Bool} {place : FilePlace} {entry : Entry} {entries : List Entry}
      {error : Option FileError} {items : List (List ℕ × Item)} {whole : Bool} (less : ℕ) (at : FilePlace) (text : List ℕ) (forbids : Bool)
      (inner : List Entry) (end : Option FileError) (within : List (List ℕ × Item))
      → IncludesFile known place entry at.name.now → contents at.name.now (Text at.real_dir.now text)
      → Forbids known.includes entry forbids → IsFile text inner end → depth ≡ less + 1
      → Walks contents known less (none_allowed || forbids) at inner end within true
      → Walks contents known depth none_allowed place entries error items whole
      → Walks contents known depth none_allowed place (entry ∷ entries) error
      (in_file place (Found entry) ∷ (within ++ items)) whole
  cut_within : {depth : ℕ} {none_allowed : Bool} {place : FilePlace} {entry : Entry} {entries : List Entry}
      {error : Option FileError} (less : ℕ) (at : FilePlace) (text : List ℕ) (forbids : Bool) (inner : List Entry)
      (end : Option FileError) (within : List (List ℕ × Item))
      → IncludesFile known place entry at.name.now → contents at.name.now (Text at.real_dir.now text)
      → Forbids known.includes entry forbids → IsFile text inner end → depth ≡ less + 1
      → Walks contents known less (none_allowed || forbids) at inner end within false
      → Walks contents known depth none_allowed place (entry ∷ entries) error (in_file place (Found entry) ∷ within) false
  no_value : {depth : ℕ} {none_allowed : Bool} {place : FilePlace} {entry : Entry} {entries : List Entry}
      {error : Option FileError} {items : List (List ℕ × Item)} {whole : Bool}
      → IsInclude known place entry MissingValue → Walks contents known depth none_allowed place entries error items whole
      → Walks contents known depth none_allowed place (entry ∷ entries) error
      (in_file place (Found entry) ∷ in_file place (Stops (NoValue entry)) ∷ items) whole
  unknown : {depth : ℕ} {none_allowed : Bool} {place : FilePlace} {entry : Entry} {entries : List Entry}
      {error : Option FileError} {items : List (List ℕ × Item)} {whole : Bool}
      → IsInclude known place entry UnknownDirectory
      → Walks contents known depth none_allowed place entries error items whole
      → Walks contents known depth none_allowed place (entry ∷ entries) error
      (in_file place (Found entry) ∷ in_file place (Stops (Unknown entry)) ∷ items) whole
  not_read : {depth : ℕ} {none_allowed : Bool} {place : FilePlace} {entry : Entry} {entries : List Entry}
      {error : Option FileError} {items : List (List ℕ × Item)} {whole : Bool} (name : List ℕ)
      → IncludesFile known place entry name → contents name Unreadable
      → Walks contents known depth none_allowed place entries error items whole
      → Walks contents known depth none_allowed place (entry ∷ entries) error
      (in_file place (Found entry) ∷ in_file place (Stops (NotRead entry)) ∷ items) whole
  too_deep : {depth : ℕ} {none_allowed : Bool} {place : FilePlace} {entry : Entry} {entries : List Entry}
      {error : Option FileError} {items : List (List ℕ × Item)} {whole : Bool} (name real_dir text : List ℕ)
      → IncludesFile known place entry name → contents name (Text real_dir text) → depth ≡ 0
      → Walks contents known depth none_allowed place entries error items whole
      → Walks contents known depth none_allowed place (entry ∷ entries) error
      (in_file place (Found entry) ∷ in_file place (Stops (TooDeep entry)) ∷ items) whole
  forbidden_url : {depth : ℕ} {none_allowed : Bool} {place : FilePlace} {entry : Entry} {entries : List Entry}
      {error : Option FileError} {items : List (List ℕ × Item)} {whole : Bool}
      → IsInclude known place entry NotFollowed → IsForbidden none_allowed entry true
      → Walks contents known depth none_allowed place entries error items whole
      → Walks contents known depth none_allowed place (entry ∷ entries) error
      (in_file place (Found entry) ∷ in_file place (Stops (ForbiddenUrl entry)) ∷ items) whole

-- what a walk of the text of the file at this place comes to; it follows includes ten deep, as Git does
abbrev pub WalksText : (List ℕ → Content → Type 0) → Known → FilePlace → List ℕ → List (List ℕ × Item) → Bool
    → Type 0
WalksText contents known place text items whole = (entries : List Entry) × (error : Option FileError)
    × IsFile text entries error × Walks contents known 10 false place entries error items whole
