-- The reader, item by item.
use Rattle.std.proofs.Common.{◌≡◌, ◌≢◌, ℕ, ◌+◌, true, false, List, [], ◌∷◌, Option, Some, None, Ok}
use Rattle.std.proofs.Common.{ap, ◌∙◌, arith, refl, option_map}
use Rattle.std.proofs.lemmas.Bool.Decides.{nat_tests}
use Rattle.std.specs.Char.{is_ascii_alphabetic}
use Rattle.config_file.specs.declared.errors.FileError.{FileError}
use Rattle.config_file.specs.declared.errors.Why.{Why}
use Rattle.config_file.specs.declared.entry.Entry as code
use Rattle.config_file.specs.declared.reader.Entries as reader
use Rattle.config_file.specs.Bytes.{is_blank, is_comment_sign}
use Rattle.config_file.specs.Header.{Section, why_at}
use Rattle.config_file.specs.File as file
use Rattle.config_file.specs.File.{Entry, TakesEntry, EntryStops, Reads, begins_item, entry_at}
use Rattle.config_file.specs.Left.{Advances, HasLeft, GivesEntry, last_entry}
use Rattle.config_file.specs.Reading.Ends.{EndsEntryAs}
use Rattle.config_file.specs.Views.{entry_of, section_of}
use Rattle.config_file.specs.declared.entry.EntryForm.{EntryForm}
use Rattle.config_file.specs.declared.entry.EntryForm.TheVariants.{Alone, Plain, Marked, Refused}

-- a text that is refused with an error of this line and for this reason is refused with an equal error
pub refused_as : {section : Option Section} {line at_line : ℕ} {why : Why} {text : List ℕ} (error : FileError)
    → error.line ≡ at_line → error.why ≡ why
    → Reads section line text [] (Some (record { line = at_line; why = why })) → Reads section line text [] (Some error)
refused_as error same_line same_why h = rw (← same_line, ← same_why) at h

module _ {section : Option Section} {line : ℕ} (error : FileError) where
  pub no_item : {b : ℕ} {rest : List ℕ} (at : List ℕ) → at ≡ b ∷ rest → begins_item b ≡ false
      → error.line ≡ line + 0 → error.why ≡ why_at at → Reads section line at [] (Some error)
  no_item {b = b} at e other same_line same_why =
      let same : error.line ≡ line = omega arith in
      refused_as error same (same_why ∙ ap why_at e) (rw e (file.no_item other))

pub at_entry : {section : Option Section} {line b lines : ℕ} {rest key after : List ℕ} {value : Option (List ℕ)} (left : List Entry) (error : Option FileError) (at : List ℕ)
    → at ≡ b ∷ rest → is_ascii_alphabetic b ≡ true → TakesEntry at key value lines after
    → Reads section (line + lines) after left error
    → Reads section line at (record { section = section; key = key; value = value; line = line + lines } ∷ left) error
at_entry left error at e letter taken h = rw e (file.entry letter (rw e at taken) h)

pub none_left : {section : Option Section} {line : ℕ} (at : List ℕ) → at ≡ [] → Reads section line at [] None
none_left at e = rw e file.ends

-- the reader is in the same section, so many lines further
abbrev pub IsPast : reader.Entries → ℕ → reader.Entries → Type 0
IsPast old lines new = (new.section ≡ old.section) × (new.line ≡ old.line + lines)

past_entry : {b lines : ℕ} {rest : List ℕ} {value : Option (List ℕ)} (old new : reader.Entries)
    → old.rest.now ≡ b ∷ rest → is_ascii_alphabetic b ≡ true → IsPast old lines new
    → TakesEntry old.rest.now new.key.now value lines new.rest.now → (left : List Entry) (error : Option FileError)
    → HasLeft new left error
    → HasLeft old (entry_at (option_map section_of new.section) new.key.now value new.line ∷ left) error
past_entry old new is letter (section, line) taken left error h =
    rw (section, line) (at_entry left error old.rest.now is letter taken (rw (section, line) at h))

-- the reader advances behind the entry that it has taken
pub advances_here : {b : ℕ} {rest : List ℕ} (form : EntryForm) (lines : ℕ) (old new : reader.Entries)
    → old.rest.now ≡ b ∷ rest → is_ascii_alphabetic b ≡ true → ¬ (form ≡ Refused) → IsPast old lines new
    → EndsEntryAs form old.rest.now new.key.now new.raw.now lines new.rest.now → Advances old (Some form) new
advances_here Alone lines old new is letter some past (taken, fits) = (fits, past_entry old new is letter past taken)
advances_here Plain lines old new is letter some past (taken, fits) = (fits, past_entry old new is letter past taken)
advances_here Marked lines old new is letter some past (taken, fits) = (fits, past_entry old new is letter past taken)
advances_here Refused lines old new is letter some past stops = absurd (some refl)

-- a reader that has what a later one has left advances as the later one does
pub advances_from : (form : EntryForm) (old mid new : reader.Entries)
    → ((left : List Entry) (error : Option FileError) → HasLeft mid left error → HasLeft old left error)
    → Advances mid (Some form) new → Advances old (Some form) new
advances_from Alone old mid new same (fits, more) = (fits, λ left error h. same _ error (more left error h))
advances_from Plain old mid new same (fits, more) = (fits, λ left error h. same _ error (more left error h))
advances_from Marked old mid new same (fits, more) = (fits, λ left error h. same _ error (more left error h))
advances_from Refused old mid new same (stops, none) = (same [] _ stops, none)

-- an entry is given as the reader advances
pub gives_entry : (form : EntryForm) (old new : reader.Entries) (entry : code.Entry) → ¬ (form ≡ Refused)
    → entry_of entry ≡ last_entry new form → Advances old (Some form) new → GivesEntry old (Some (Ok entry)) new
gives_entry Alone old new entry some is (fits, more) = rw is more
gives_entry Plain old new entry some is (fits, more) = rw is more
gives_entry Marked old new entry some is (fits, more) = rw is more
gives_entry Refused old new entry some is stops = absurd (some refl)

-- a byte at which the code finds no item does not begin an item
pub begins_none : (b : ℕ) → is_blank b ≡ false → b ≢ 10 → is_comment_sign b ≡ false → b ≢ 91
    → is_ascii_alphabetic b ≡ false → begins_item b ≡ false
begins_none b not_blank not_line_end not_sign not_bracket not_letter = grind (arith, nat_tests)
