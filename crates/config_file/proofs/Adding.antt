-- Settings that are added one by one.
use Rattle.std.proofs.Common.{◌++◌, ℕ, length, option_map, map, arith, List, [], ◌∷◌, Option, sym}
use Rattle.std.specs.List.{AllZip}
use Rattle.std.proofs.lemmas.List.{append_assoc, append-nil, map-append}
use Rattle.config_file.specs.declared.errors.FileError.{FileError}
use Rattle.config_file.specs.File.{Entry, IsFile}
use Rattle.config_file.specs.declared.settings.Setting.{Setting}
use Rattle.config_file.specs.declared.reader.Entries.{Entries}
use Rattle.config_file.specs.Left.{HasLeft}
use Rattle.config_file.specs.Settings.{IsSettingOf, AddsEach, HasFirstEntries}
use Rattle.config_file.specs.Views.{section_of}
use Rattle.config_file.proofs.EachReading.{are_read}

pub adds_none : (settings : List Setting) → AddsEach [] settings settings
adds_none settings = ([], sym (append-nil settings), tt)

pub zip_append : {A B : Type 0} (R : A → B → Type 0) (xs more : List A) (ys others : List B) → AllZip R xs ys
    → AllZip R more others → AllZip R (xs ++ more) (ys ++ others)
zip_append R [] more [] others all rest = rest
zip_append R (w ∷ ws) more (z ∷ zs) others all rest = (all.0, zip_append R ws more zs others all.1 rest)
zip_append R xs more ys others all rest = absurd all

pub adds_both : (found more : List (List ℕ × Entry)) (old new newer : List Setting) → AddsEach found old new
    → AddsEach more new newer → AddsEach (found ++ more) old newer
adds_both found more old new newer (first, is, all) (second, is2, all2) = (
  first ++ second,
  rw (is2, is) (append_assoc old first second),
  zip_append IsSettingOf found more first second all all2,
)

-- the entries of one file
abbrev pub of_file : List ℕ → List Entry → List (List ℕ × Entry)
of_file file entries = map (λ entry. (file, entry)) entries

pub file_adds_more : (file : List ℕ) (entries : List Entry) (entry : Entry) (old new newer : List Setting)
    → AddsEach (of_file file entries) old new → AddsEach ((file, entry) ∷ []) new newer
    → AddsEach (of_file file (entries ++ entry ∷ [])) old newer
file_adds_more file entries entry old new newer adds one =
    rw (map-append {B = List ℕ × Entry} (λ e. (file, e)) entries (entry ∷ []))
    (adds_both (of_file file entries) ((file, entry) ∷ []) old new newer adds one)

pub file_more : (text : List ℕ) (entries left : List Entry) (entry : Entry) (error : Option FileError)
    → IsFile text (entries ++ entry ∷ left) error → IsFile text ((entries ++ entry ∷ []) ++ left) error
file_more text entries left entry error file = rw (append_assoc entries (entry ∷ []) left) file

pub first_of : (text : List ℕ) (entries : List Entry) (reader : Entries)
    → ((left : List Entry) (error : Option FileError) → HasLeft reader left error → IsFile text (entries ++ left) error)
    → HasFirstEntries text entries
first_of text entries reader before =
    let (left, error, reads) =
    are_read (length reader.rest.now) (option_map section_of reader.section) reader.line reader.rest.now (omega arith) in
    (left, error, before left error reads)
