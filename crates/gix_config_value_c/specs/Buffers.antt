-- Texts in the caller's memory.
use Rattle.std.specs.Prelude.{◌≡◌, ℕ, ◌<◌, ◌≤◌, List, ◌++◌, length, drop}
use Rattle.gix_config_value_c.specs.declared.status.Status.{Status}
use Rattle.gix_config_value_c.specs.declared.status.Status.TheVariants as statuses
use Rattle.gix_config_value_c.specs.Numbers.{status_number}

-- the text is written to the front of the buffer, and the bytes after it are left alone; or the buffer is too
-- short and left alone. In both cases the length of the text is written.
pub data PutsText (text buffer buffer' : List ℕ) (length' status : ℕ) : Type 0 where
  whole : length text ≤ length buffer → buffer' ≡ text ++ drop (length text) buffer → length' ≡ length text
      → status ≡ status_number statuses.Ok
      → PutsText text buffer buffer' length' status
  short : length buffer < length text → buffer' ≡ buffer → length' ≡ length text → status ≡ status_number statuses.ShortBuffer
      → PutsText text buffer buffer' length' status

-- the call returns this status, and leaves the buffer and the length alone
abbrev pub LeavesBuffer : Status → List ℕ → List ℕ → ℕ → ℕ → ℕ → Type 0
LeavesBuffer said buffer buffer' size size' status =
    (buffer' ≡ buffer) × (size' ≡ size) × (status ≡ status_number said)

-- a text with this property is put into the buffer; or the status is a reason, and all is left alone
pub data AnswersText (is_text : List ℕ → Type 0) (is_reason : ℕ → Type 0) (buffer buffer' : List ℕ) (size size' status : ℕ) : Type 0 where
  put : (text : List ℕ) → is_text text → PutsText text buffer buffer' size' status
      → AnswersText is_text is_reason buffer buffer' size size' status
  none : is_reason status → buffer' ≡ buffer → size' ≡ size
      → AnswersText is_text is_reason buffer buffer' size size' status
