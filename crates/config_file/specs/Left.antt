-- What the reader has left to read.
--
-- Look for (here and in Errors): the reader has nothing left after an error; texts of errors.
use Rattle.std.specs.Prelude.{List, [], ◌∷◌, Option, Some, None, Result, Ok, Err, option_map}
use Rattle.config_file.specs.declared.errors.FileError.{FileError}
use Rattle.config_file.specs.declared.entry.Entry as code
use Rattle.config_file.specs.declared.entry.EntryForm.{EntryForm}
use Rattle.config_file.specs.declared.entry.EntryForm.TheVariants.{Refused}
use Rattle.config_file.specs.declared.reader.Entries as reader
use Rattle.config_file.specs.File.{Entry, Reads, entry_at, error_at}
use Rattle.config_file.specs.Reading.Ends.{FitsForm, value_as}
use Rattle.config_file.specs.Views.{section_of, entry_of}

-- the reader has these entries left, up to the end of its text or to this error
abbrev pub HasLeft : reader.Entries → List Entry → Option FileError → Type 0
HasLeft entries left error =
    Reads (option_map section_of entries.section) entries.line entries.rest.now left error

-- The reader returns the first of the entries that are left. After an error or `None` it has no entries left.
abbrev pub GivesEntry : reader.Entries → Option (Result code.Entry FileError) → reader.Entries → Type 0
GivesEntry old None new = HasLeft old [] None × HasLeft new [] None
GivesEntry old (Some (Ok entry)) new =
    (left : List Entry) (error : Option FileError)
    → HasLeft new left error → HasLeft old (entry_of entry ∷ left) error
GivesEntry old (Some (Err error)) new = HasLeft old [] (Some error) × HasLeft new [] None

-- the entry that the reader has come to, in this form, and the error at which it has stopped
abbrev pub last_entry : reader.Entries → EntryForm → Entry
last_entry entries form =
    entry_at (option_map section_of entries.section) entries.key.now (value_as form entries.raw.now) entries.line

abbrev pub last_error : reader.Entries → FileError
last_error entries = error_at entries.line entries.why

-- The reader goes on behind the first of the entries that are left, which has this form. At the end and after an error
-- it has no entries left.
abbrev pub Advances : reader.Entries → Option EntryForm → reader.Entries → Type 0
Advances old None new = HasLeft old [] None × HasLeft new [] None
Advances old (Some Refused) new = HasLeft old [] (Some (last_error new)) × HasLeft new [] None
Advances old (Some form) new = FitsForm form new.raw.now × ((left : List Entry) (error : Option FileError)
    → HasLeft new left error → HasLeft old (last_entry new form ∷ left) error)
