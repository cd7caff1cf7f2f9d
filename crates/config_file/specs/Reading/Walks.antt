-- What is left of a walk, and what a step takes off it.
use Rattle.std.specs.Prelude.{◌≡◌, ℕ, ◌+◌, ◌||◌, ⊤, Bool, true, false, List, [], ◌∷◌, ◌++◌, Option, length, reverse}
use Rattle.std.specs.List.{Contains}
use Rattle.config_file.specs.File.{Entry, IsFile}
use Rattle.config_file.specs.Include.{Forbids, IsForbidden}
use Rattle.config_file.specs.Left.{HasLeft}
use Rattle.config_file.specs.Views.{entry_of}
use Rattle.config_file.specs.Walk.{Content, Text, Missing, Unreadable, Item, Found, Stops, Walks, in_file, IsInclude}
use Rattle.config_file.specs.Walk.{Line, NoValue, Unknown, NotRead, TooDeep, ForbiddenUrl}
use Rattle.config_file.specs.declared.errors.FileError.{FileError}
use Rattle.config_file.specs.declared.walk.FilePlace.{FilePlace}
use Rattle.config_file.specs.declared.walk.Known.{Known}
use Rattle.config_file.specs.declared.walk.Frame.{Frame}
use Rattle.config_file.specs.declared.walk.Step.{Step}
use Rattle.config_file.specs.declared.walk.Step.TheVariants as step
use Rattle.config_file.specs.declared.include.Includes.{Includes}
use Rattle.config_file.specs.declared.walk.Include.{Include}
use Rattle.config_file.specs.declared.walk.Include.TheVariants as include

-- whether Git allows no URL of a remote in a file that is included below these frames, from the last to the first
abbrev pub none_allowed : List Frame → Bool
none_allowed [] = false
none_allowed (frame ∷ below) = frame.forbids_urls

-- the walk of the frames, from the last to the first: of what is left of the last file, and then of the
-- others
pub data LeftOf (contents : List ℕ → Content → Type 0) (known : Known)
    : List Frame → List (List ℕ × Item) → Bool → Type 0 where
  nothing : {whole : Bool} → LeftOf contents known [] [] whole
  goes_on : {frame : Frame} {below : List Frame} {rest : List (List ℕ × Item)} {whole : Bool}
      (depth : ℕ) (inner : List Entry) (end : Option FileError) (within : List (List ℕ × Item))
      → length below + depth ≡ 10 → HasLeft frame.entries inner end
      → Walks contents known depth (none_allowed below) frame.place inner end within true
      → LeftOf contents known below rest whole → LeftOf contents known (frame ∷ below) (within ++ rest) whole
  is_cut : {frame : Frame} {below : List Frame}
      (depth : ℕ) (inner : List Entry) (end : Option FileError) (within : List (List ℕ × Item))
      → length below + depth ≡ 10 → HasLeft frame.entries inner end
      → Walks contents known depth (none_allowed below) frame.place inner end within false
      → LeftOf contents known (frame ∷ below) within false

-- a walk with these frames comes to these items from now on; it may be cut unless it is whole
abbrev pub Left : (List ℕ → Content → Type 0) → Known → List Frame → List (List ℕ × Item) → Bool → Type 0
Left contents known frames items whole = LeftOf contents known (reverse frames) items whole

-- the new frames are the old ones and, last, the whole text of the file at this place
abbrev pub Enters : List Frame → FilePlace → List ℕ → List Frame → Type 0
Enters old place text new = (frame : Frame) × (new ≡ old ++ frame ∷ []) × (frame.place ≡ place)
    × ((left : List Entry) (error : Option FileError) → HasLeft frame.entries left error → IsFile text left error)

-- the answers that a caller gave say that the file of this name holds this
abbrev pub Said : List (List ℕ × Content) → List ℕ → Content → Type 0
Said answers name content = Contains answers (name, content)

-- the walk of the old frames comes to these items, and then goes on as that of the new frames
abbrev pub Passes : List (List ℕ × Content) → Known → List Frame → List (List ℕ × Item) → List Frame → Type 0
Passes answers known old items new = (left : List (List ℕ × Item)) (whole : Bool)
    → Left (Said answers) known new left whole → Left (Said answers) known old (items ++ left) whole

-- How the walk goes on after an entry that includes the file of this name, by what the file holds: as if the
-- entry included nothing, after a stop there, or in the text that is entered.
pub record Asks (answers : List (List ℕ × Content)) (known : Known) (old : List Frame) (place : FilePlace)
    (entry : Entry) (name : List ℕ) (new : List Frame) : Type 0 where
  pub missing : Said answers name Missing → Passes answers known old (in_file place (Found entry) ∷ []) new
  pub not_read : Said answers name Unreadable
      → Passes answers known old (in_file place (Found entry) ∷ in_file place (Stops (NotRead entry)) ∷ []) new
  pub too_deep : (real_dir text : List ℕ) → Said answers name (Text real_dir text) → length new ≡ 11
      → Passes answers known old (in_file place (Found entry) ∷ in_file place (Stops (TooDeep entry)) ∷ []) new
  pub entered : (at : FilePlace) (text : List ℕ) (frames : List Frame) → at.name.now ≡ name
      → Said answers at.name.now (Text at.real_dir.now text) → Enters new at text frames
      → Passes answers known old (in_file place (Found entry) ∷ []) frames

-- what an entry of this file includes, or that it is the URL of a remote where Git allows none
abbrev pub IsIncludeIn : Known → FilePlace → Bool → Entry → Include → Type 0
IsIncludeIn known place here entry include.ForbiddenUrl =
    IsInclude known place entry include.NotFollowed × IsForbidden here entry true
IsIncludeIn known place here entry include.NotFollowed =
    IsInclude known place entry include.NotFollowed × IsForbidden here entry false
IsIncludeIn known place here entry include = IsInclude known place entry include

-- what the flag of a file says after an entry that includes this: whether Git allows no URL of a remote in the
-- file that is included; it says nothing if none is
abbrev pub ForbidsBelow : Includes → Bool → Entry → Include → Bool → Type 0
ForbidsBelow includes here entry (include.Named name) below =
    (forbids : Bool) × Forbids includes entry forbids × (below ≡ (here || forbids))
ForbidsBelow includes here entry _ below = ⊤

-- what a step takes off the walk with the old frames, which goes on with the new ones
abbrev pub Takes : List (List ℕ × Content) → Known → List Frame → Step → List Frame → Type 0
Takes answers known old (step.Entry place entry include.NotFollowed) new =
    Passes answers known old (in_file place (Found (entry_of entry)) ∷ []) new
Takes answers known old (step.Entry place entry include.MissingValue) new = Passes answers known old
    (in_file place (Found (entry_of entry)) ∷ in_file place (Stops (NoValue (entry_of entry))) ∷ []) new
Takes answers known old (step.Entry place entry include.UnknownDirectory) new = Passes answers known old
    (in_file place (Found (entry_of entry)) ∷ in_file place (Stops (Unknown (entry_of entry))) ∷ []) new
Takes answers known old (step.Entry place entry include.ForbiddenUrl) new = Passes answers known old
    (in_file place (Found (entry_of entry)) ∷ in_file place (Stops (ForbiddenUrl (entry_of entry))) ∷ []) new
Takes answers known old (step.Entry place entry (include.Named name)) new =
    Asks answers known old place (entry_of entry) name.items new
Takes answers known old (step.Line place error) new =
    Passes answers known old (in_file place (Stops (Line error)) ∷ []) new
Takes answers known old step.Ends new = (new ≡ []) × Passes answers known old [] new
