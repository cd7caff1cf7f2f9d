-- Edits of the text of a configuration file, in C.
use Rattle.std.specs.Prelude.{◌≡◌, ℕ, List, None, Some}
use Rattle.config_edit.specs.Edit.{AddsOne, HasNone, HasSeveral, Never, RefusesEdit, ReplacesAll, Sets}
use Rattle.config_edit.specs.Sections.{RefusesRemoval, RefusesRenaming, RemovesSection, RenamesSection}
use Rattle.config_edit.specs.Unset.{Unsets, UnsetsAll}
use Rattle.config_edit.specs.declared.EditError.{EditError}
use Rattle.config_edit.specs.declared.EditError.TheVariants as error
use Rattle.config_file.specs.Errors.{why_number}
use Rattle.gix_config_value_c.specs.declared.edits.Edit.{Edit}
use Rattle.gix_config_value_c.specs.declared.edits.Edit.TheVariants as edits
use Rattle.gix_config_value_c.specs.declared.status.Status.{Status}
use Rattle.gix_config_value_c.specs.declared.status.Status.TheVariants as statuses
use Rattle.gix_config_value_c.specs.Buffers.{AnswersText, LeavesBuffer}
use Rattle.gix_config_value_c.specs.Commands.{key_status}
use Rattle.gix_config_value_c.specs.Numbers.{status_number}
use Rattle.gix_config_value_c.specs.Values.{IsNoValue}

-- the number of the status that says why a text is not edited
abbrev pub edit_status : EditError → ℕ
edit_status (error.Memory refused) = status_number statuses.NoMemory
edit_status (error.Key reason) = status_number (key_status reason)
edit_status error.Section = status_number statuses.BadSection
edit_status error.Value = status_number statuses.BadValue
edit_status error.Comment = status_number statuses.BadValue
edit_status (error.File reason) = why_number reason.why
edit_status error.Several = status_number statuses.Several
edit_status error.Absent = status_number statuses.Absent

-- the line of a text that is no file, and otherwise the line as it was
abbrev pub told_line : EditError → ℕ → ℕ
told_line (error.Memory refused) line = line
told_line (error.Key reason) line = line
told_line error.Section line = line
told_line error.Value line = line
told_line (error.File reason) line = reason.line
told_line error.Several line = line
told_line error.Comment line = line
told_line error.Absent line = line

-- the status and the line say why a text is not edited, for which these are the reasons
abbrev pub TellsEdit : (EditError → Type 0) → ℕ → ℕ → ℕ → Type 0
TellsEdit refuses line line' status =
    (reason : EditError) × refuses reason × (line' ≡ told_line reason line) × (status ≡ edit_status reason)

-- a text that the edit makes is put into the buffer; or the edit is refused, and the buffer is left alone
abbrev pub EditsInto : (List ℕ → Type 0) → (EditError → Type 0) → List ℕ → List ℕ → ℕ → ℕ → ℕ → ℕ → ℕ → Type 0
EditsInto makes refuses buffer buffer' size size' line line' status = AnswersText
    (λ new. makes new × (line' ≡ line)) (TellsEdit refuses line line') buffer buffer' size size' status

-- the number of an edit
abbrev pub edit_number : Edit → ℕ
edit_number edits.Set = 0
edit_number edits.ReplaceAll = 1
edit_number edits.Add = 2
edit_number edits.Unset = 3
edit_number edits.UnsetAll = 4
edit_number edits.RenameSection = 5
edit_number edits.RemoveSection = 6

-- what an edit makes of a text, by a key and a value, by a key alone, by two names, or by one
abbrev pub Makes : Edit → List ℕ → List ℕ → List ℕ → List ℕ → Type 0
Makes edits.Set key value = Sets key value
Makes edits.ReplaceAll key value = ReplacesAll key value
Makes edits.Add key value = AddsOne key value
Makes edits.Unset key second = Unsets key
Makes edits.UnsetAll key second = UnsetsAll key
Makes edits.RenameSection old new = RenamesSection old new
Makes edits.RemoveSection name second = RemovesSection name

-- why an edit of a text is refused
abbrev pub Refuses : Edit → List ℕ → List ℕ → List ℕ → EditError → Type 0
Refuses edits.Set key value = RefusesEdit HasSeveral Never key (Some value)
Refuses edits.ReplaceAll key value = RefusesEdit Never Never key (Some value)
Refuses edits.Add key value = RefusesEdit Never Never key (Some value)
Refuses edits.Unset key second = RefusesEdit HasSeveral HasNone key None
Refuses edits.UnsetAll key second = RefusesEdit Never HasNone key None
Refuses edits.RenameSection old new = RefusesRenaming old new
Refuses edits.RemoveSection name second = RefusesRemoval name

-- the edit with this number puts its text into the buffer, or is refused; or no edit has the number
pub data EditsBy (number : ℕ) (first second text buffer buffer' : List ℕ) (size size' line line' status : ℕ) : Type 0 where
  edited : (edit : Edit) → number ≡ edit_number edit
      → EditsInto (Makes edit first second text) (Refuses edit first second text)
      buffer buffer' size size' line line' status
      → EditsBy number first second text buffer buffer' size size' line line' status
  unknown : IsNoValue edit_number number → LeavesBuffer statuses.UnknownKind buffer buffer' size size' status
      → line' ≡ line → EditsBy number first second text buffer buffer' size size' line line' status
