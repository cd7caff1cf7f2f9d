-- How the reader finds that values and entries end.
use Rattle.std.specs.Prelude.{◌≡◌, ℕ, true, List, Option, Some, None, ⊤}
use Rattle.std.specs.List.{list_all}
use Rattle.config_file.specs.File.{Entry, TakesEntry, EntryStops}
use Rattle.config_file.specs.Header.{why_at}
use Rattle.config_file.specs.Reading.Scans.{is_unmarked}
use Rattle.config_file.specs.Value.{TakesValue, ValueStops}
use Rattle.config_file.specs.declared.entry.EntryEnd.{EntryEnd}
use Rattle.config_file.specs.declared.entry.EntryForm.{EntryForm}
use Rattle.config_file.specs.declared.entry.EntryForm.TheVariants.{Alone, Plain, Marked, Refused}
use Rattle.config_file.specs.declared.value.ValueEnd.{ValueEnd}

-- the value of an entry of this form, whose value has these bytes if it has one
abbrev pub value_as : EntryForm → List ℕ → Option (List ℕ)
value_as Alone raw = None
value_as Plain raw = Some raw
value_as Marked raw = Some raw
value_as Refused raw = None

-- if this is the form of a value, these bytes have no quote and no backslash where the form says so
abbrev pub FitsForm : EntryForm → List ℕ → Type 0
FitsForm Plain raw = list_all is_unmarked raw ≡ true
FitsForm _ raw = ⊤

-- if the entry has a value, that fits this form
abbrev pub FitsEntry : EntryForm → Entry → Type 0
FitsEntry form entry = (raw : List ℕ) → entry.value ≡ Some raw → FitsForm form raw

-- after its `=`, the text has a value of this form with these bytes, which continues over this many line ends, and then
-- this rest; or it is refused where this rest begins
abbrev pub EndsValueAs : EntryForm → List ℕ → List ℕ → ℕ → List ℕ → Type 0
EndsValueAs Alone text raw lines rest = ⊥
EndsValueAs Plain text raw lines rest = TakesValue text raw lines rest × FitsForm Plain raw
EndsValueAs Marked text raw lines rest = TakesValue text raw lines rest × FitsForm Marked raw
EndsValueAs Refused text raw lines rest = ValueStops text lines (why_at rest)

abbrev pub IsValueEnd : List ℕ → ValueEnd → Type 0
IsValueEnd text end = EndsValueAs end.form text end.raw.now end.lines end.rest.now

-- the text begins with an entry of this form, or it is refused where this rest begins
abbrev pub EndsEntryAs : EntryForm → List ℕ → List ℕ → List ℕ → ℕ → List ℕ → Type 0
EndsEntryAs Refused text key raw lines rest = EntryStops text lines (why_at rest)
EndsEntryAs form text key raw lines rest = TakesEntry text key (value_as form raw) lines rest × FitsForm form raw

abbrev pub IsEntryEnd : List ℕ → EntryEnd → Type 0
IsEntryEnd text end = EndsEntryAs end.form text end.key.now end.raw.now end.lines end.rest.now
