-- A text has at most one reading.
use Rattle.std.proofs.Common.{◌≡◌, ◌≢◌, ℕ, ◌+◌, Bool, true, false, ◌==◌, List, [], ◌∷◌}
use Rattle.std.proofs.Common.{Option, Some, None, Ok, Err, refl, sym, ap, ◌∙◌, subst, arith, inl, inr}
use Rattle.std.proofs.Common.{◌⊎◌, if◌then◌else◌, eqb-true}
use Rattle.std.proofs.lemmas.Bool.{cases_Bool}
use Rattle.std.proofs.lemmas.Bool.Decides.{nat_tests}
use Rattle.std.specs.Char.{is_ascii_alphabetic}
use Rattle.config_file.proofs.Pick.{equal}
use Rattle.config_file.proofs.OneRun.{run_only}
use Rattle.config_file.proofs.AddedEntries.{mark_is}
use Rattle.config_file.proofs.OneHeader as one_header
use Rattle.config_file.proofs.OneHeader.{HeaderHas, header_only}
use Rattle.config_file.proofs.OneEntry as one_entry
use Rattle.config_file.proofs.OneEntry.{EntryHas, entry_only}
use Rattle.config_file.specs.declared.errors.FileError.{FileError}
use Rattle.config_file.specs.Bytes.{is_blank, is_comment_sign, is_comment_byte, IsAtLineEnd}
use Rattle.config_file.specs.Runs.{Run}
use Rattle.config_file.specs.Header.{Section, why_at}
use Rattle.config_file.specs.File as file
use Rattle.config_file.specs.File.{Entry, Reads, Begins, IsFile, begins_item, after_mark, IsPartOfMark}

-- the kind of item that begins with a byte
pub data Kind : Type 0 where
  blank : Kind
  line_end : Kind
  comment : Kind
  header : Kind
  entry : Kind
  nothing : Kind

abbrev pub choose : Bool → Bool → Bool → Bool → Bool → Kind
choose p q r s t =
    if p then blank else if q then line_end else if r then comment else if s then header else if t then entry else nothing

abbrev pub kind : ℕ → Kind
kind b = choose (is_blank b) (b == 10) (is_comment_sign b) (b == 91) (is_ascii_alphabetic b)

pub kind_blank : (b : ℕ) → is_blank b ≡ true → kind b ≡ blank
kind_blank b is = ap (λ p. choose p (b == 10) (is_comment_sign b) (b == 91) (is_ascii_alphabetic b)) is

pub kind_line_end : (b : ℕ) → b ≡ 10 → kind b ≡ line_end
kind_line_end b is = rw is

pub kind_header : (b : ℕ) → b ≡ 91 → kind b ≡ header
kind_header b is = rw is

pub kind_comment : (b : ℕ) → is_comment_sign b ≡ true → kind b ≡ comment
kind_comment b is =
    elim (equal b 35) [ inl e ↦ rw e | inr other ↦ let e : b ≡ 59 = grind (arith, nat_tests) in rw e ]

chosen_last : (p q r s t : Bool) → (p ≡ false) × (q ≡ false) × (r ≡ false) × (s ≡ false)
    → choose p q r s t ≡ (if t then entry else nothing)
chosen_last p q r s t (e, f, g, h) = rw (e, f, g, h)

pub kind_entry : (b : ℕ) → is_ascii_alphabetic b ≡ true → kind b ≡ entry
kind_entry b is =
    chosen_last _ _ _ _ _
    (grind (arith, nat_tests), grind (arith, nat_tests), grind (arith, nat_tests), grind (arith, nat_tests))
    ∙ ap (λ t. if t then entry else nothing) is

kind_nothing : (b : ℕ) → begins_item b ≡ false → kind b ≡ nothing
kind_nothing b is =
    let no_letter : is_ascii_alphabetic b ≡ false = grind (arith, nat_tests) in
    chosen_last _ _ _ _ _
    (grind (arith, nat_tests), grind (arith, nat_tests), grind (arith, nat_tests), grind (arith, nat_tests))
    ∙ ap (λ t. if t then entry else nothing) no_letter

abbrev AfterHeader : Option Section → ℕ → List Entry → Option FileError → one_header.Outcome → Type 0
AfterHeader section line left error (Ok p) = Reads (Some p.0) line p.1 left error
AfterHeader section line left error (Err stop) =
    (left ≡ []) × (error ≡ Some (record { line = line + stop.0; why = stop.1 }))

abbrev AfterEntry : Option Section → ℕ → List Entry → Option FileError → one_entry.Outcome → Type 0
AfterEntry section line left error (Ok p) =
    (later : List Entry) × Reads section (line + p.2) p.3 later error
    × (left ≡ record { section = section; key = p.0; value = p.1; line = line + p.2 } ∷ later)
AfterEntry section line left error (Err stop) =
    (left ≡ []) × (error ≡ Some (record { line = line + stop.0; why = stop.1 }))

-- what a reading states after its first byte, by the kind of item that begins there
abbrev Turn : Option Section → ℕ → ℕ → List ℕ → List Entry → Option FileError → Kind → Type 0
Turn section line b text left error blank = Reads section line text left error
Turn section line b text left error line_end = Reads section (line + 1) text left error
Turn section line b text left error comment =
    (run : List ℕ) × (rest : List ℕ) × Run is_comment_byte text run rest × Reads section line rest left error
Turn section line b text left error header =
    (o : one_header.Outcome) × HeaderHas text o × AfterHeader section line left error o
Turn section line b text left error entry =
    (o : one_entry.Outcome) × is_ascii_alphabetic b ≡ true × EntryHas (b ∷ text) o × AfterEntry section line left error o
Turn section line b text left error nothing =
    (left ≡ []) × (error ≡ Some (record { line = line; why = why_at (b ∷ text) }))

turn : {section : Option Section} {line b : ℕ} {text : List ℕ} {left : List Entry} {error : Option FileError}
    → Reads section line (b ∷ text) left error
    → (k : Kind) × (kind b ≡ k) × Turn section line b text left error k
turn (file.blank {b = b} is h) = (blank, kind_blank b is, h)
turn (file.line_end {b = b} is h) = (line_end, kind_line_end b is, h)
turn (file.comment {b = b} {comment = run} {rest = rest} is ran h) =
    (comment, kind_comment b is, (run, rest, ran, h))
turn (file.header {next = next} {b = b} {rest = rest} is taken h) =
    (header, kind_header b is, (Ok (next, rest), taken, h))
turn (file.entry {lines = lines} {b = b} {key = key} {rest = rest} {value = v} {entries = later} is taken h) =
    (entry, kind_entry b is, (Ok (key, v, lines, rest), is, taken, (later, h, refl)))
turn (file.header_refused {lines = lines} {b = b} {why = why} is stops) =
    (header, kind_header b is, (Err (lines, why), stops, (refl, refl)))
turn (file.entry_refused {lines = lines} {b = b} {why = why} is stops) =
    (entry, kind_entry b is, (Err (lines, why), is, stops, (refl, refl)))
turn (file.no_item {b = b} is) = (nothing, kind_nothing b is, (refl, refl))

at_kind : {section : Option Section} {line b : ℕ} {text : List ℕ} {left : List Entry}
    {error : Option FileError} (k : Kind) → kind b ≡ k → Reads section line (b ∷ text) left error
    → Turn section line b text left error k
at_kind {section = section} {line = line} {b = b} {text = text} {left = left} {error = error} k is reads =
    let (other, so, found) = turn reads in
    subst (λ x. Turn section line b text left error x) (sym so ∙ is) found

empty_is : {section : Option Section} {line : ℕ} {a : List Entry} {e : Option FileError}
    → Reads section line [] a e → (a ≡ []) × (e ≡ None)
empty_is file.ends = (refl, refl)

header_at : {section : Option Section} {line b : ℕ} {text : List ℕ} {left : List Entry}
    {error : Option FileError} (o : one_header.Outcome) → HeaderHas text o → b ≡ 91
    → Reads section line (b ∷ text) left error → AfterHeader section line left error o
header_at {b = b} {text = text} o has is reads =
    let (p, also, after) = at_kind header (kind_header b is) reads in
    rw (header_only text p o also has) at after

entry_at : {section : Option Section} {line b : ℕ} {text : List ℕ} {left : List Entry}
    {error : Option FileError} (o : one_entry.Outcome) → EntryHas (b ∷ text) o → is_ascii_alphabetic b ≡ true
    → Reads section line (b ∷ text) left error → AfterEntry section line left error o
entry_at {b = b} {text = text} o has is reads =
    let (p, again, also, after) = at_kind entry (kind_entry b is) reads in
    rw (entry_only (b ∷ text) p o also has) at after

-- what is left of a text has at most one reading, in any section and on any line
pub reads_once : {section : Option Section} {line : ℕ} {text : List ℕ} {a b : List Entry} {e f : Option FileError}
    → Reads section line text a e → Reads section line text b f → (a ≡ b) × (e ≡ f)
reads_once file.ends second = let (none, is) = empty_is second in (sym none, sym is)
reads_once (file.blank {b = c} is first) second = reads_once first (at_kind blank (kind_blank c is) second)
reads_once (file.line_end {b = c} is first) second =
    reads_once first (at_kind line_end (kind_line_end c is) second)
reads_once {section = section} {line = line} {b = b} {f = f} (file.comment {b = c} is ran first) second =
    let (run, rest, also, more) = at_kind comment (kind_comment c is) second in
    reads_once first (subst (λ x. Reads section line x b f) (sym (run_only ran also).1) more)
reads_once (file.header {next = next} {rest = rest} is has first) second =
    reads_once first (header_at (Ok (next, rest)) has is second)
reads_once {section = section} {line = line}
    (file.entry {lines = lines} {key = key} {rest = rest} {value = v} is has first) second =
    let (later, more, same) = entry_at (Ok (key, v, lines, rest)) has is second in
    let (lefts, errors) = reads_once first more in
    (ap (◌∷◌ (file.entry_at section key v (line + lines))) lefts ∙ sym same, errors)
reads_once (file.header_refused {lines = lines} {why = why} is has) second =
    let (none, same) = header_at (Err (lines, why)) has is second in (sym none, sym same)
reads_once (file.entry_refused {lines = lines} {why = why} is has) second =
    let (none, same) = entry_at (Err (lines, why)) has is second in (sym none, sym same)
reads_once (file.no_item {b = c} is) second =
    let (none, same) = at_kind nothing (kind_nothing c is) second in (sym none, sym same)

no_end : (b : ℕ) (rest : List ℕ) → b ≢ 10 → b ≢ 13 → IsAtLineEnd (b ∷ rest) → ⊥
no_end b [] not_line not_return h = not_line h
no_end b (c ∷ rest) not_line not_return (inl is) = not_line is
no_end b (c ∷ rest) not_line not_return (inr (is, next)) = not_return is

-- if a text begins with the whole mark, its first line does not hold only a part of it
whole_mark : (rest : List ℕ) → IsPartOfMark (0xef ∷ 0xbb ∷ 0xbf ∷ rest) → ⊥
whole_mark rest (is, inl end) = no_end 0xbb (0xbf ∷ rest) (omega arith) (omega arith) end
whole_mark rest (is, inr (next, end)) = no_end 0xbf rest (omega arith) (omega arith) end

mark_is_whole : (text rest : List ℕ) → after_mark text ≡ Some rest → IsPartOfMark text → ⊥
mark_is_whole text rest e h = whole_mark rest (rw (mark_is text rest e) at h)

pub begins_only : {text r s : List ℕ} {m n : ℕ} → Begins text m r → Begins text n s → (m ≡ n) × (r ≡ s)
begins_only (file.marked e) (file.marked f) = (refl, cc)
begins_only (file.marked {text = text} {rest = rest} e) (file.part_of_mark h) =
    absurd (mark_is_whole text rest e h)
begins_only (file.marked e) (file.unmarked f h) = absurd (cc)
begins_only (file.part_of_mark h) (file.marked {text = text} {rest = rest} e) =
    absurd (mark_is_whole text rest e h)
begins_only (file.part_of_mark h) (file.part_of_mark k) = (refl, refl)
begins_only (file.part_of_mark h) (file.unmarked e k) = absurd (k h)
begins_only (file.unmarked f h) (file.marked e) = absurd (cc)
begins_only (file.unmarked e k) (file.part_of_mark h) = absurd (k h)
begins_only (file.unmarked e h) (file.unmarked f k) = (refl, refl)

pub one_reading : (text : List ℕ) (a b : List Entry) (e f : Option FileError) → IsFile text a e
    → IsFile text b f → (a ≡ b) × (e ≡ f)
one_reading text a b e f first second =
    let (lines, rests) = begins_only first.begins second.begins in
    reads_once (rw (lines, rests) at first.reads) second.reads
