-- Entries that are added to a configuration file.
use Rattle.std.proofs.Common.{◌≡◌, ◌≢◌, ℕ, ◌+◌, true, false, List, [], ◌∷◌, ◌++◌, Option, Some, None}
use Rattle.std.proofs.Common.{option_map, refl, ◌∙◌, subst, append_assoc, arith, inl, inr, ◌⊎◌, ◌==◌, ◌&&◌}
use Rattle.std.proofs.Common.{◌||◌}
use Rattle.std.specs.List.{list_all, flat_map}
use Rattle.std.specs.Char.{is_ascii_alphabetic}
use Rattle.std.proofs.lemmas.Bool.{cases_Bool, true≢false, and_parts}
use Rattle.std.proofs.lemmas.Bool.Decides.{nat_tests}
use Rattle.config_file.specs.Bytes.{is_comment_byte, is_key_byte}
use Rattle.config_file.specs.Header.{Section}
use Rattle.config_file.specs.Value.{TakesValue, closed, line_feeds}
use Rattle.config_file.specs.File as file
use Rattle.config_file.specs.File.{Entry, TakesKey, TakesEntry, alone, valued, Reads, Begins, marked}
use Rattle.config_file.specs.File.{part_of_mark, unmarked, after_mark, IsPartOfMark, IsFile}
use Rattle.config_file.specs.Spelling.{is_continued, HasLineEnd, EndsLine, IsHeader, IsSpelling}
use Rattle.config_file.specs.Spelling.{SpellsOptional, IsEntry, AddsEntry, IsLine, HasNoHeader, IsNoKey}
use Rattle.config_file.specs.Spelling.{LacksSpelling, letter_of, after_backslash, spelled_byte, needs_quotes}
use Rattle.config_file.specs.Spelling.{git_spelled, spelled_section}
use Rattle.config_file.specs.Reading.Spellings.{is_spellable_or_absent, is_key, spelled_line, is_section}
use Rattle.config_file.specs.Reading.Spellings.{is_writable}
use Rattle.config_file.proofs.LineEnds.{line_feeds_after, line_feeds_none, after_front, ends_line}
use Rattle.config_file.proofs.LineEnds.{continued_tail, continued_by_last, pair_continued}
use Rattle.config_file.proofs.Spellings.{git_spelling, not_spelled}
use Rattle.config_file.proofs.SpelledHeaders.{header_spelled, no_header, no_key}
use Rattle.config_file.proofs.Appended.{reads_more, both_other}

-- a spelling has no LF
byte_other : (b : ℕ) (o : Option ℕ) → letter_of b ≡ o → list_all is_comment_byte (after_backslash b o) ≡ true
byte_other b (Some l) is = let other : is_comment_byte l ≡ true = grind (arith, nat_tests) in rw other
byte_other b None is = let other : is_comment_byte b ≡ true = grind (arith, nat_tests) in rw other

bytes_other : (value : List ℕ) → list_all is_comment_byte (flat_map spelled_byte value) ≡ true
bytes_other [] = refl
bytes_other (b ∷ value) =
    both_other (spelled_byte b) (flat_map spelled_byte value) (byte_other b (letter_of b) refl) (bytes_other value)

value_lines : (value : List ℕ) → line_feeds (git_spelled value) ≡ 0
value_lines value =
    elim (cases_Bool (needs_quotes value)) [
      | inl is ↦
          let all = both_other (flat_map spelled_byte value) (34 ∷ []) (bytes_other value) refl in
          rw is (line_feeds_none (34 ∷ (flat_map spelled_byte value ++ 34 ∷ [])) all)
      | inr other ↦ rw other (line_feeds_none (flat_map spelled_byte value) (bytes_other value))
    ]

-- no spelling is continued: it does not end in a backslash that is not escaped
byte_stays : (b : ℕ) (o : Option ℕ) (line : List ℕ) → letter_of b ≡ o → is_continued line ≡ false
    → is_continued (after_backslash b o ++ line) ≡ false
byte_stays b (Some l) line is h =
    let other : l ≢ 13 = grind (arith, nat_tests) in pair_continued l line other ∙ h
byte_stays b None line is h = let other : b ≢ 92 = grind (arith, nat_tests) in continued_tail b line other ∙ h

bytes_stay : (value : List ℕ) → is_continued (flat_map spelled_byte value) ≡ false
bytes_stay [] = refl
bytes_stay (b ∷ value) = byte_stays b (letter_of b) (flat_map spelled_byte value) refl (bytes_stay value)

value_stays : (value : List ℕ) → is_continued (git_spelled value) ≡ false
value_stays value =
    elim (cases_Bool (needs_quotes value)) [
      | inl is ↦
          rw is (continued_by_last (34 ∷ flat_map spelled_byte value) 34 [] (omega arith) (omega arith) refl)
      | inr other ↦ rw other (bytes_stay value)
    ]

key_stays : (key line : List ℕ) → list_all is_key_byte key ≡ true → is_continued line ≡ false
    → is_continued (key ++ line) ≡ false
key_stays [] line all h = h
key_stays (b ∷ key) line all h =
    let others : list_all is_key_byte key ≡ true = grind (arith, nat_tests) in
    let first : is_key_byte b ≡ true = grind (arith, nat_tests) in
    let other : b ≢ 92 = grind (arith, nat_tests) in
    continued_tail b (key ++ line) other ∙ key_stays key line others h

-- what a line has after its key
abbrev after_key : Option (List ℕ) → List ℕ
after_key None = 10 ∷ []
after_key (Some value) = 61 ∷ (git_spelled value ++ 10 ∷ [])

line_is : (key : List ℕ) (value : Option (List ℕ)) → spelled_line key value ≡ key ++ after_key value
line_is key None = refl
line_is key (Some value) = refl

after_key_ends : (value : Option (List ℕ))
    → (line : List ℕ) × (after_key value ≡ line ++ 10 ∷ []) × (is_continued line ≡ false)
after_key_ends None = ([], refl, refl)
after_key_ends (Some value) =
    (61 ∷ git_spelled value, refl, continued_tail 61 (git_spelled value) (omega arith) ∙ value_stays value)

line_ends : (front key : List ℕ) (value : Option (List ℕ)) → is_key key ≡ true
    → HasLineEnd (front ++ spelled_line key value)
line_ends front [] value is = cc
line_ends front (k ∷ key) value is =
    let (letter, all) = and_parts (is_ascii_alphabetic k) (list_all is_key_byte (k ∷ key)) is in
    let no_backslash : k ≢ 92 = grind (arith, nat_tests) in
    let no_return : k ≢ 13 = grind (arith, nat_tests) in
    let (line, e, h) = after_key_ends value in
    record {
      line = front ++ (k ∷ key ++ line);
      joined = rw (line_is (k ∷ key) value, e) (simp append_assoc);
      not_continued =
          continued_by_last front k (key ++ line) no_backslash no_return (key_stays (k ∷ key) line all h);
    }

-- a line with a key, and with a value if there is one
abbrev value_of : Option (List ℕ) → Option (List ℕ)
value_of value = option_map (λ v. git_spelled v) value

key_then : (k : ℕ) (key rest : List ℕ) (b : ℕ) → list_all is_key_byte (k ∷ key) ≡ true
    → is_key_byte b ≡ false → (b == 32 || b == 9) ≡ false
    → TakesKey ((k ∷ key) ++ b ∷ rest) (k ∷ key) (b ∷ rest)
key_then k key rest b all no_key no_space =
    record {
      spaced = b ∷ rest;
      spaces = [];
      key_run = record { joined = refl; pass = all; longest = no_key };
      space_run = record { joined = refl; pass = refl; longest = no_space };
    }

line_taken : (k : ℕ) (key : List ℕ) (value : Option (List ℕ)) → list_all is_key_byte (k ∷ key) ≡ true
    → is_spellable_or_absent value ≡ true
    → TakesEntry ((k ∷ key) ++ after_key value) (k ∷ key) (value_of value) 0 (10 ∷ [])
line_taken k key None all spellable = alone (key_then k key [] 10 all refl refl) refl
line_taken k key (Some value) all spellable =
    let raw = git_spelled value in
    let taken : TakesValue (raw ++ 10 ∷ []) raw (line_feeds raw) (10 ∷ []) =
    closed refl (git_spelling value spellable).0 (inl refl) in
    valued (key_then k key (raw ++ 10 ∷ []) 61 all refl refl) refl (rw (value_lines value) at taken)

value_spells : (value : Option (List ℕ)) → is_spellable_or_absent value ≡ true
    → SpellsOptional IsSpelling (value_of value) value
value_spells None is = tt
value_spells (Some value) is = git_spelling value is

abbrev entry_on : Section → List ℕ → Option (List ℕ) → ℕ → Entry
entry_on section key value line = record { section = Some section; key = key; value = value_of value; line = line }

line_reads : (section : Section) (key : List ℕ) (value : Option (List ℕ)) (line : ℕ) → is_key key ≡ true
    → is_spellable_or_absent value ≡ true
    → Reads (Some section) line (spelled_line key value) (entry_on section key value line ∷ []) None
line_reads section [] value line is spellable = cc
line_reads section (k ∷ key) value line is spellable =
    let (letter, all) = and_parts (is_ascii_alphabetic k) (list_all is_key_byte (k ∷ key)) is in
    let same : line + 0 ≡ line = omega arith in
    let left : Reads (Some section) (line + 0) (10 ∷ []) [] None = file.line_end refl file.ends in
    let read =
    file.entry {section = Some section} {line = line} letter (line_taken k key value all spellable) left in
    rw (line_is (k ∷ key) value) (rw same at read)

-- how a text begins, and how it begins after bytes are appended to it
pub begins_no_mark : {section : Option Section} {line b : ℕ} {text : List ℕ} {entries : List Entry}
    → Reads section line (b ∷ text) entries None → b ≢ 0xef
begins_no_mark (file.blank is h) e = grind (arith, nat_tests)
begins_no_mark (file.line_end is h) e = omega arith
begins_no_mark (file.comment is run h) e = grind (arith, nat_tests)
begins_no_mark (file.header is header h) e = omega arith
begins_no_mark (file.entry letter takes h) e = grind (arith, nat_tests)

pub no_mark : (b : ℕ) (text : List ℕ) → b ≢ 0xef → after_mark (b ∷ text) ≡ None
no_mark b [] other = refl
no_mark b (c ∷ []) other = refl
no_mark b (c ∷ d ∷ text) other = let no : (b == 0xef) ≡ false = grind (arith, nat_tests) in rw no

no_part_of_mark : (b : ℕ) (text : List ℕ) → b ≢ 0xef → IsPartOfMark (b ∷ text) → ⊥
no_part_of_mark b [] other part = other part
no_part_of_mark b (c ∷ text) other part = other part.0

pub begins_unmarked : (b : ℕ) (text : List ℕ) → b ≢ 0xef → Begins (b ∷ text) 1 (b ∷ text)
begins_unmarked b text other = unmarked (no_mark b text other) (no_part_of_mark b text other)

pub mark_is : (text rest : List ℕ) → after_mark text ≡ Some rest → text ≡ 0xef ∷ 0xbb ∷ 0xbf ∷ rest
mark_is (a ∷ b ∷ c ∷ text) rest e =
    elim (cases_Bool ((a == 0xef && b == 0xbb) && c == 0xbf)) [
      | inl is ↦
          let some : Some text ≡ Some rest = rw is at e in
          let same : text ≡ rest = cc in
          let first : a ≡ 0xef = grind (arith, nat_tests) in
          let second : b ≡ 0xbb = grind (arith, nat_tests) in
          let third : c ≡ 0xbf = grind (arith, nat_tests) in
          rw (same, first, second, third)
      | inr other ↦ let none : None ≡ Some rest = rw other at e in cc
    ]
mark_is _ rest e = cc

marked_ends : {text : List ℕ} (rest : List ℕ) → text ≡ 0xef ∷ 0xbb ∷ 0xbf ∷ rest → EndsLine text
    → EndsLine rest
marked_ends rest same (inl none) = cc
marked_ends rest same (inr h) =
    ends_line (after_front (0xef ∷ 0xbb ∷ []) 0xbf rest (omega arith) same h)

module _ (bytes : List ℕ) (last : List Entry) (end : ℕ) (reads : (section : Option Section) → Reads section end (91 ∷ bytes) last None) where
  begun_more : {text rest : List ℕ} {line : ℕ} {entries : List Entry} → Begins text line rest
      → Reads None line rest entries None → EndsLine text
      → 1 + line_feeds text ≡ end → IsFile (text ++ 91 ∷ bytes) (entries ++ last) None
  begun_more (marked {text = text} {rest = rest} mark) h ends e =
      let same = mark_is text rest mark in
      let f = line_feeds_after (0xef ∷ 0xbb ∷ 0xbf ∷ []) rest same refl in
      record {
        line = 1;
        rest = rest ++ 91 ∷ bytes;
        begins = rw same (marked refl);
        reads = reads_more (91 ∷ bytes) last end reads h (marked_ends rest same ends) (omega arith);
      }
  begun_more (part_of_mark {text = []} part) h ends e = absurd part
  begun_more (part_of_mark {text = b ∷ text} part) h ends e =
      absurd (no_part_of_mark b text (begins_no_mark h) part)
  begun_more (unmarked {text = []} none other) h ends e =
      record {
        line = 1;
        rest = 91 ∷ bytes;
        begins = begins_unmarked 91 bytes (omega arith);
        reads = reads_more (91 ∷ bytes) last end reads h ends e;
      }
  begun_more (unmarked {text = b ∷ text} none other) h ends e =
      record {
        line = 1;
        rest = (b ∷ text) ++ 91 ∷ bytes;
        begins = begins_unmarked b (text ++ 91 ∷ bytes) (begins_no_mark h);
        reads = reads_more (91 ∷ bytes) last end reads h ends e;
      }

pub entry_added : (bytes name : List ℕ) (text : Option (List ℕ)) (key : List ℕ) (value : Option (List ℕ))
    → IsHeader bytes name text
    → is_key key ≡ true → is_spellable_or_absent value ≡ true
    → AddsEntry (bytes ++ spelled_line key value) name text key value
entry_added bytes name text key value (inner, section, same, names, header) is spellable file_text entries is_file ends =
    let end = 1 + line_feeds file_text in
    let entry = entry_on section key value end in
    let line = spelled_line key value in
    let reads : (before : Option Section) → Reads before end (91 ∷ (inner ++ line)) (entry ∷ []) None =
    λ before. file.header refl (header line) (line_reads section key value end is spellable) in
    let is_entry : IsEntry name text key value end entry =
    record { section = (section, refl, names); same_key = refl; spells = value_spells value spellable; same_line = refl } in (
      entry,
      is_entry,
      rw same (begun_more (inner ++ line) (entry ∷ []) end reads is_file.begins is_file.reads ends refl),
      inr (subst HasLineEnd (append_assoc file_text bytes line) (line_ends (file_text ++ bytes) key value is)),
    )

-- the parts that no entry can have
lacks_spelling : (value : Option (List ℕ)) → is_spellable_or_absent value ≡ false → LacksSpelling value
lacks_spelling None no_value = absurd (true≢false no_value)
lacks_spelling (Some value) refused = not_spelled value refused

pub not_writable : (name : List ℕ) (text : Option (List ℕ)) (key : List ℕ) (value : Option (List ℕ))
    → is_writable name text key value ≡ false
    → HasNoHeader name text ⊎ IsNoKey key ⊎ LacksSpelling value
not_writable name text key value refused =
    elim (cases_Bool (is_section name text)) [
      | inr none ↦ inl (no_header name text none)
      | inl section ↦ elim (cases_Bool (is_key key)) [
        | inr none ↦ inr (inl (no_key key none))
        | inl is ↦
            let value_refused : is_spellable_or_absent value ≡ false = rw (section, is) at refused in
            inr (inr (lacks_spelling value value_refused))
      ]
    ]

writable_parts : (name : List ℕ) (text : Option (List ℕ)) (key : List ℕ) (value : Option (List ℕ))
    → is_writable name text key value ≡ true
    → (is_section name text ≡ true) × (is_key key ≡ true) × (is_spellable_or_absent value ≡ true)
writable_parts name text key value all =
    let (front, spellable) = and_parts (is_section name text && is_key key) _ all in
    let (section, is) = and_parts (is_section name text) (is_key key) front in
    (section, is, spellable)

pub writable_added : (name : List ℕ) (text : Option (List ℕ)) (key : List ℕ) (value : Option (List ℕ))
    → is_writable name text key value ≡ true
    → AddsEntry ((91 ∷ spelled_section name text) ++ spelled_line key value) name text key value
writable_added name text key value all =
    let (section, is, spellable) = writable_parts name text key value all in
    entry_added (91 ∷ spelled_section name text) name text key value (header_spelled name text section) is spellable

pub writable_line : (name : List ℕ) (text : Option (List ℕ)) (key : List ℕ) (value : Option (List ℕ))
    → is_writable name text key value ≡ true
    → IsLine ((91 ∷ spelled_section name text) ++ spelled_line key value) name text key value
writable_line name text key None all =
    let (section, is, spellable) = writable_parts name text key None all in
    (91 ∷ spelled_section name text, (header_spelled name text section, refl), refl)
writable_line name text key (Some value) all =
    let (section, is, spellable) = writable_parts name text key (Some value) all in (
      91 ∷ spelled_section name text,
      git_spelled value,
      (header_spelled name text section, refl),
      (git_spelling value spellable, refl),
      refl,
    )
