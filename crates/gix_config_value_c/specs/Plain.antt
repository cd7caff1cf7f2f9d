-- Many entries of a file in one call, in C.
use Rattle.std.specs.Prelude.{◌≡◌, ◌≢◌, ◌≤◌, ◌<◌, ◌+◌, ◌-◌, ℕ, List, [], ◌∷◌, ◌++◌, Option, None, Some, Result, Ok, ◌⊎◌}
use Rattle.std.specs.Prelude.{length, take}
use Rattle.config_file.specs.Left.{GivesEntry}
use Rattle.config_file.specs.Views.{entry_of}
use Rattle.config_file.specs.Walk.{IsInclude}
use Rattle.config_file.specs.declared.entry.Entry as code
use Rattle.config_file.specs.declared.errors.FileError.{FileError}
use Rattle.config_file.specs.declared.reader.Entries.{Entries}
use Rattle.config_file.specs.declared.walk.Frame.{Frame}
use Rattle.config_file.specs.declared.walk.Include.{Include}
use Rattle.config_file.specs.declared.walk.Include.TheVariants.{NotFollowed}
use Rattle.config_file.specs.declared.walk.Known.{Known}
use Rattle.gix_config_value_c.specs.declared.status.Status.TheVariants as statuses
use Rattle.gix_config_value_c.specs.declared.walk.GcvFrame.{GcvFrame}
use Rattle.gix_config_value_c.specs.declared.walk.GcvKnown.{GcvKnown}
use Rattle.gix_config_value_c.specs.declared.walk.GcvStep.{GcvStep}
use Rattle.gix_config_value_c.specs.declared.walk.Texts.{Texts}
use Rattle.gix_config_value_c.specs.Numbers.{status_number}
use Rattle.gix_config_value_c.specs.Paths.{HasBadFlag}
use Rattle.gix_config_value_c.specs.Walks.{flags, AreTextsOf, HoldsFrame, IsKnown, step_struct}

-- the next entry of the file that a frame holds includes no file, and is told with these texts; the new frame holds what
-- is left
pub record TellsEntry (known : Known) (frame : GcvFrame) (texts : Texts) (step : GcvStep) (frame' : GcvFrame) : Type 0 where
  pub held : Frame
  pub held' : Frame
  pub entry : code.Entry
  pub holds : HoldsFrame frame held
  pub gives : GivesEntry held.entries (Some (Ok entry)) held'.entries
  pub place : held'.place ≡ held.place
  pub forbids : held'.forbids_urls ≡ held.forbids_urls
  pub plain : IsInclude known held.place (entry_of entry) NotFollowed
  pub are_texts : AreTextsOf (entry_of entry) NotFollowed texts
  pub is_step : step ≡ step_struct held.place entry NotFollowed texts
  pub holds' : HoldsFrame frame' held'

-- entries are told one after the other, with the texts of each behind those of the one before
pub data Tells (known : Known) (frame : GcvFrame) : List GcvStep → List ℕ → GcvFrame → Type 0 where
  nothing : Tells known frame [] [] frame
  one_more : {steps : List GcvStep} {bytes : List ℕ} {mid new : GcvFrame} (texts : Texts) (step : GcvStep)
      → Tells known frame steps bytes mid → TellsEntry known mid texts step new
      → Tells known frame (steps ++ step ∷ []) (bytes ++ texts.bytes.items) new

-- no entry is told: the frame holds no file, the file has no entry left or is refused there, the entry may include a
-- file, or its texts are longer than the room
pub data Stays (known : Known) (frame : GcvFrame) (room : ℕ) : Type 0 where
  no_frame : ((held : Frame) → ¬ (HoldsFrame frame held)) → Stays known frame room
  no_entry : (held : Frame) (new : Entries) (next : Option (Result code.Entry FileError)) → HoldsFrame frame held
      → GivesEntry held.entries next new → ((entry : code.Entry) → next ≢ Some (Ok entry)) → Stays known frame room
  includes : (held : Frame) (new : Entries) (entry : code.Entry) (include : Include) → HoldsFrame frame held
      → GivesEntry held.entries (Some (Ok entry)) new → IsInclude known held.place (entry_of entry) include
      → include ≢ NotFollowed → Stays known frame room
  short : (held : Frame) (new : Entries) (entry : code.Entry) (texts : Texts) → HoldsFrame frame held
      → GivesEntry held.entries (Some (Ok entry)) new → AreTextsOf (entry_of entry) NotFollowed texts
      → room < length texts.bytes.items → Stays known frame room

-- the next entry is told, and its texts follow the first bytes of the buffer; or none is told
abbrev pub TellsNext : Known → GcvFrame → GcvFrame → ℕ → List ℕ → List ℕ → Option GcvStep → Type 0
TellsNext known frame frame' size buffer buffer' (Some step) = (texts : Texts) × TellsEntry known frame texts step frame'
    × (size + length texts.bytes.items ≤ length buffer)
    × (take (size + length texts.bytes.items) buffer' ≡ take size buffer ++ texts.bytes.items)
TellsNext known frame frame' size buffer buffer' None =
    (frame' ≡ frame) × (buffer' ≡ buffer) × Stays known frame (length buffer - size)

-- Entries are told, as many as the array and the buffer have room for, up to one that is not told so, or for which
-- memory is refused. Or a flag is bad, and nothing changes.
pub data PlainInto (frame : GcvFrame) (given : GcvKnown) (buffer : List ℕ) (steps : List GcvStep) (count : ℕ)
    (frame' : GcvFrame) (buffer' : List ℕ) (steps' : List GcvStep) (count' status : ℕ) : Type 0 where
  told : (known : Known) (size : ℕ) → IsKnown given known
      → Tells known frame (take count' steps') (take size buffer') frame'
      → (length steps' ≤ count') ⊎ Stays known frame' (length buffer' - size) → status ≡ status_number statuses.Ok
      → PlainInto frame given buffer steps count frame' buffer' steps' count' status
  no_memory : (known : Known) (size : ℕ) → IsKnown given known
      → Tells known frame (take count' steps') (take size buffer') frame' → status ≡ status_number statuses.NoMemory
      → PlainInto frame given buffer steps count frame' buffer' steps' count' status
  bad_flag : HasBadFlag (flags given) → frame' ≡ frame → buffer' ≡ buffer → steps' ≡ steps → count' ≡ count
      → status ≡ status_number statuses.BadFlag
      → PlainInto frame given buffer steps count frame' buffer' steps' count' status
