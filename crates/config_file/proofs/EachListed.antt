-- Each entry of a file has a key that Git lists, and a value that spells a text, if it has a value.
use Rattle.std.proofs.Common.{◌≡◌, ◌↔◌, true, ℕ, List, Option, Some, None, map, get_or, subst}
use Rattle.std.specs.List.{All, list_all}
use Rattle.std.specs.Char.{to_ascii_lowercase}
use Rattle.std.proofs.lemmas.List.Elements.{All-nil, All-cons}
use Rattle.config_file.specs.declared.errors.FileError.{FileError}
use Rattle.config_file.specs.Bytes.{is_key_byte}
use Rattle.config_file.specs.Header as header
use Rattle.config_file.specs.Header.{Section, Header}
use Rattle.config_file.specs.Value as value
use Rattle.config_file.specs.Value.{Ending, SpellsValue, TakesValue, outside, at_backslash}
use Rattle.config_file.specs.File as file
use Rattle.config_file.specs.File.{Entry, TakesEntry, Reads, IsFile}
use Rattle.config_file.specs.Listing.{IsListed, alone, in_section, plain, quoted}
use Rattle.config_file.specs.Key.{Key, HasKey, IsCut, listed}
use Rattle.config_file.proofs.OneKey.{has_key_as_listed, key_bytes_no_dot}

-- Git lists entries in this section
abbrev ListsIn : Option Section → Type 0
ListsIn section = (key : List ℕ) → (listed : List ℕ) × IsListed section key listed

abbrev pub IsSpelled : Option (List ℕ) → Type 0
IsSpelled v =
    (raw : List ℕ) → v ≡ Some raw → (text : List ℕ) × (ending : Ending) × SpellsValue raw text ending

pub record IsRead (entry : Entry) : Type 0 where
  pub listed : (listed : List ℕ) × IsListed entry.section entry.key listed
  pub spelled : IsSpelled entry.value
  pub key_bytes : list_all is_key_byte entry.key ≡ true

lists_before_headers : ListsIn None
lists_before_headers key = (map to_ascii_lowercase key, alone)

lists_in : {text rest : List ℕ} {section : Section} → Header text section rest → ListsIn (Some section)
lists_in (header.plain run some e) key = (_, in_section plain)
lists_in (header.quoted opens (header.closes takes e)) key = (_, in_section (quoted takes.is_subsection.1))

is_spelled : {text raw rest : List ℕ} {lines : ℕ} → TakesValue text raw lines rest → IsSpelled (Some raw)
is_spelled (value.closed {value = v} joined spells ends) raw e =
    (v, outside, subst (λ r. SpellsValue r v outside) (cc) spells)
is_spelled (value.open_end {value = v} spells) raw e =
    (v, at_backslash, subst (λ r. SpellsValue r v at_backslash) (cc) spells)

is_read : {section : Option Section} {text key rest : List ℕ} {v : Option (List ℕ)} {lines : ℕ} (line : ℕ)
    → ListsIn section → TakesEntry text key v lines rest → IsRead (file.entry_at section key v line)
is_read line lists (file.alone {key = key} takes end) =
    record { listed = lists key; spelled = λ raw e. cc; key_bytes = takes.key_run.pass }
is_read line lists (file.valued {key = key} takes e taken) =
    record { listed = lists key; spelled = is_spelled taken; key_bytes = takes.key_run.pass }

are_read : {section : Option Section} {line : ℕ} {text : List ℕ} {entries : List Entry} {error : Option FileError}
    → ListsIn section → Reads section line text entries error → All IsRead entries
are_read lists file.ends = All-nil IsRead
are_read lists (file.blank is reads) = are_read lists reads
are_read lists (file.line_end is reads) = are_read lists reads
are_read lists (file.comment is run reads) = are_read lists reads
are_read lists (file.header is head reads) = are_read (lists_in head) reads
are_read lists (file.entry {line = line} {lines = lines} {entries = entries} letter taken reads) =
    All-cons IsRead _ entries (is_read _ lists taken) (are_read lists reads)
are_read lists (file.header_refused is stops) = All-nil IsRead
are_read lists (file.entry_refused is stops) = All-nil IsRead
are_read lists (file.no_item none) = All-nil IsRead

pub entries_are_read : {text : List ℕ} {entries : List Entry} {error : Option FileError}
    → IsFile text entries error → All IsRead entries
entries_are_read is = are_read lists_before_headers is.reads

pub keys_of_entries : {text written : List ℕ} {entries : List Entry} {error : Option FileError} {key : Key}
    → IsFile text entries error → IsCut written key
    → All (λ entry. HasKey entry key ↔ IsListed entry.section entry.key (listed key)) entries
keys_of_entries {entries = entries} {key = key} is cut k d within =
    let read : IsRead (get_or entries k d) = entries_are_read is k d within in
    let entry = get_or entries k d in
    has_key_as_listed entry key (key_bytes_no_dot entry.key read.key_bytes) cut.name
