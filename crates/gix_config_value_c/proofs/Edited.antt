-- What an edit makes is put into the buffer, and why it is refused is told.
use Rattle.std.proofs.Common.{◌≡◌, ℕ, List, Result, Ok, Err, MatchResult}
use Rattle.config_edit.specs.declared.EditError.{EditError}
use Rattle.gix_config_value_c.specs.Buffers.{PutsText}
use Rattle.gix_config_value_c.specs.Buffers.AnswersText.{put, none}
use Rattle.gix_config_value_c.specs.Edits.{EditsInto, edit_status, told_line}
use Rattle.gix_config_value_c.specs.Numbers.{status_number}

pub into : {V : Type 0} (items : V → List ℕ) (makes : List ℕ → Type 0) (refuses : EditError → Type 0)
    (edited : Result V EditError) {buffer buffer' : List ℕ} {size size' line line' status : ℕ}
    → MatchResult edited (λ new. makes (items new)) refuses
    → MatchResult edited (λ new. PutsText (items new) buffer buffer' size' status × (line' ≡ line))
    (λ error. (status ≡ edit_status error) × (line' ≡ told_line error line) × (buffer' ≡ buffer) × (size' ≡ size))
    → EditsInto makes refuses buffer buffer' size size' line line' status
into items makes refuses (Ok new) made (puts, same) = put (items new) (made, same) puts
into items makes refuses (Err error) refused (status, line, left, kept) = none (error, refused, line, status) left kept
