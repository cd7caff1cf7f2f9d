-- Entries and their keys, from the parts that the reader takes.
use Rattle.std.proofs.Common.{◌≡◌, ℕ, List, ◌∷◌, refl}
use Rattle.config_file.specs.Bytes.{is_key_byte, is_space}
use Rattle.config_file.specs.File as file
use Rattle.config_file.specs.File.{TakesKey, TakesEntry, EntryStops}
use Rattle.config_file.specs.Header.{why_at}
use Rattle.config_file.specs.Reading.Ends.{EndsEntryAs, EndsValueAs, value_as}
use Rattle.config_file.specs.Runs.{Run}
use Rattle.config_file.specs.declared.entry.EntryForm.{EntryForm}
use Rattle.config_file.specs.declared.entry.EntryForm.TheVariants.{Alone, Plain, Marked, Refused}

pub takes_key : {text key spaces rest : List ℕ} (spaced : List ℕ) → Run is_key_byte text key spaced
    → Run is_space spaced spaces rest → TakesKey text key rest
takes_key {spaces = spaces} spaced key_run space_run =
    record { spaced = spaced; spaces = spaces; key_run = key_run; space_run = space_run }

-- an entry ends as its value does
pub ends_as_value : {text key after : List ℕ} (form : EntryForm) (raw rest : List ℕ) (lines : ℕ)
    → TakesKey text key (61 ∷ after) → EndsValueAs form after raw lines rest → EndsEntryAs form text key raw lines rest
ends_as_value Alone raw rest lines takes none = absurd none
ends_as_value Plain raw rest lines takes (value, fits) = (file.valued takes refl value, fits)
ends_as_value Marked raw rest lines takes (value, fits) = (file.valued takes refl value, fits)
ends_as_value Refused raw rest lines takes stops = file.value takes refl stops

-- an entry that is not refused is taken
pub is_taken : {text key rest : List ℕ} {lines : ℕ} (form : EntryForm) (raw : List ℕ) → ¬ (form ≡ Refused)
    → EndsEntryAs form text key raw lines rest → TakesEntry text key (value_as form raw) lines rest
is_taken Alone raw some (taken, fits) = taken
is_taken Plain raw some (taken, fits) = taken
is_taken Marked raw some (taken, fits) = taken
is_taken Refused raw some stops = absurd (some refl)

-- an entry that is refused stops the reader
pub is_stopped : {text : List ℕ} {lines : ℕ} (form : EntryForm) (key raw rest : List ℕ) → form ≡ Refused
    → EndsEntryAs form text key raw lines rest → EntryStops text lines (why_at rest)
is_stopped Alone key raw rest is ends = cc
is_stopped Plain key raw rest is ends = cc
is_stopped Marked key raw rest is ends = cc
is_stopped Refused key raw rest is ends = ends
