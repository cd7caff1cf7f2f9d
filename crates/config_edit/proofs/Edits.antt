-- Texts that are put together from pieces.
use Rattle.std.proofs.Common.{◌≡◌, ◌≢◌, ℕ, ◌+◌, ◌<◌, Bool, true, false, List, [], ◌∷◌, ◌++◌, Option}
use Rattle.std.proofs.Common.{None, length, map, refl, sym, ap, ◌∙◌, subst, append_assoc, append-nil, arith}
use Rattle.std.proofs.Common.{inl, inr, ◌⊎◌, ◌==◌, true≢false}
use Rattle.std.proofs.lemmas.Bool.Decides.{nat_tests}
use Rattle.std.proofs.lemmas.List.{map-append}
use Rattle.config_edit.specs.declared.piece.Held.{Held}
use Rattle.config_edit.specs.declared.piece.Held.TheVariants as held
use Rattle.config_file.specs.declared.section.Section as code
use Rattle.config_file.specs.Header as header
use Rattle.config_file.specs.Header.{Section, Header}
use Rattle.config_file.specs.File as file
use Rattle.config_file.specs.File.{Entry, Reads, IsFile}
use Rattle.config_file.specs.Key.{Key}
use Rattle.config_file.specs.Listing.{IsListedSection}
use Rattle.config_file.specs.Listing as listing
use Rattle.config_edit.specs.Edit as spec
use Rattle.config_edit.specs.Edit.{Content, content, HasContents, IsIn, WithoutIn, NoneIn}
use Rattle.config_edit.specs.Cut.{AreBlank}
use Rattle.config_edit.specs.Reached.{Leads}
use Rattle.config_edit.specs.Reached as reached
use Rattle.config_edit.specs.Reading.{Holds, Ends, Passed, anywhere, at_end, IsRead, IsMade}
use Rattle.config_edit.specs.Reading.{IsHeaderHeld, contents_in, section_after, is_item}
use Rattle.config_edit.specs.Cut as cut
use Rattle.config_edit.specs.Cut.{IsSplit}
use Rattle.config_file.specs.Views.{section_of}
use Rattle.config_file.proofs.AddedEntries.{begins_no_mark, begins_unmarked, mark_is}
use Rattle.config_file.proofs.EachReading.{are_read, not_empty}
use Rattle.config_file.proofs.OneReading.{reads_once, begins_only}
use Rattle.config_edit.proofs.Pieces.{compose, onward, blanks_lead}
pub use Rattle.config_edit.proofs.Pieces.{joined_more}

-- texts one after the other
pub holds_nothing : (section : Option Section) → Holds section [] [] section
holds_nothing section = λ line other. (line, [], reached.here, refl)

two_contents : (first second : List Entry) {xs ys : List Content} → map content first ≡ xs
    → map content second ≡ ys → map content (first ++ second) ≡ xs ++ ys
two_contents first second same also = map-append content first second ∙ rw (same, also) refl

pub holds_join : {section middle next : Option Section} (a b : List ℕ) {xs ys : List Content}
    → Holds section a xs middle → Holds middle b ys next
    → Holds section (a ++ b) (xs ++ ys) next
holds_join a b first second = λ line other.
    let (half, entries, leads, same) = first line (b ++ other) in
    let (end, more, later, also) = second half other in
    (end, entries ++ more, rw append_assoc (onward leads later), two_contents entries more same also)

pub holds_end : {section middle : Option Section} (a b : List ℕ) {xs ys : List Content}
    → Holds section a xs middle → Ends middle b ys → Ends section (a ++ b) (xs ++ ys)
holds_end a b first second = λ line.
    let (half, entries, leads, same) = first line b in
    let (more, reads, also) = second half in
    (entries ++ more, compose leads reads, two_contents entries more same also)

pub passed_holds : {section next : Option Section} {text rest : List ℕ} {contents : List Content} → rest ≢ []
    → Passed section text contents next rest
    → Holds section text contents next
passed_holds some (anywhere holds) = holds
passed_holds some (at_end none ends) = absurd (some none)

pub passed_join : {section middle next : Option Section} {a b rest more : List ℕ} {xs ys : List Content}
    → rest ≢ [] → Passed section a xs middle rest
    → Passed middle b ys next more → Passed section (a ++ b) (xs ++ ys) next more
passed_join {a = a} {b = b} some first (anywhere second) =
    anywhere (holds_join a b (passed_holds some first) second)
passed_join {a = a} {b = b} some first (at_end none second) =
    at_end none (holds_end a b (passed_holds some first) second)

pub passed_ends : {section next : Option Section} {text rest : List ℕ} {contents : List Content} → rest ≡ []
    → Passed section text contents next rest
    → Ends section text contents
passed_ends none (at_end unused ends) = ends
passed_ends {text = text} none (anywhere holds) =
    simp append-nil at (holds_end text [] {ys = []} holds (λ line. ([], file.ends, refl)))

pub ends_once : {section : Option Section} {text : List ℕ} {xs ys : List Content} → Ends section text xs
    → Ends section text ys → xs ≡ ys
ends_once first second =
    let (entries, reads, same) = first 0 in
    let (others, again, also) = second 0 in
    sym same ∙ ap (λ e. map content e) (reads_once reads again).0 ∙ also

pub is_none_left : (rest : List ℕ) → true ≡ (length rest == 0) → rest ≡ []
is_none_left [] none = refl
is_none_left (b ∷ rest) none = grind (arith, nat_tests)

pub is_some_left : (rest : List ℕ) → false ≡ (length rest == 0) → rest ≢ []
is_some_left rest some none = absurd (true≢false (sym (some ∙ ap (λ r. length r == 0) none)))

module _ {section next : Option Section} {text front rest : List ℕ} {xs all : List Content}
    (joined : text ≡ front ++ rest)
    (passed : Passed section front xs next rest) where
  -- what follows is read, if the whole text is
  left_read : Ends section text all → IsRead rest
  left_read whole = elim passed [
    | at_end none ends ↦ (None, 0, [], rw none file.ends)
    | anywhere holds ↦
        let (end, entries, leads, same) = holds 0 rest in
        let (more, error, reads) = are_read (length rest) next end rest (omega arith) in
        let (all_entries, again, also) = whole 0 in
        let none : error ≡ None = sym (reads_once (rw joined at again) (compose leads reads)).1 in
        (next, end, more, rw none at reads)
  ]

  -- where no piece is left, all of the text has been passed
  pub all_passed : Ends section text all → (rest ≡ []) ⊎ (¬ (IsRead rest))
      → (rest ≡ []) × (text ≡ front) × (xs ≡ all)
  all_passed whole (inl none) =
      let same = joined ∙ ap (λ r. front ++ r) none ∙ append-nil front in
      (none, same, ends_once (passed_ends none passed) (rw same at whole))
  all_passed whole (inr not_read) = absurd (not_read (left_read whole))

  -- where a piece cannot be read, the text is no file
  pub not_read : rest ≢ [] → (rest ≡ []) ⊎ (¬ (IsRead rest)) → ¬ (Ends section text all)
  not_read some (inl none) = λ whole. some none
  not_read some (inr not) = λ whole. not (left_read whole)

-- a piece of a text
pub some_left : (text rest : List ℕ) → length rest < length text → text ≢ []
some_left [] rest shorter e = absurd (omega arith)
some_left (b ∷ text) rest shorter e = not_empty b text e

pub section_listed : {text rest : List ℕ} {section : Section} → Header text section rest
    → (listed : List ℕ) × IsListedSection section listed
section_listed (header.plain run some e) = (_, listing.plain)
section_listed (header.quoted opens (header.closes takes e)) = (_, listing.quoted takes.is_subsection.1)

pub header_listed : (h : Held) (blanks bytes rest : List ℕ) (is_line : Bool)
    → IsMade h blanks bytes rest is_line → (section : code.Section) → h ≡ held.Header section
    → (listed : List ℕ) × IsListedSection (section_of section) listed
header_listed (held.Header new) blanks bytes rest is_line made section e =
    let same : new ≡ section = cc in
    rw same at (section_listed (made.header []))
header_listed h blanks bytes rest is_line made section e = cc

-- contents without those in the section of a key
pub without_in_both : {key : Key} (a b : List Content) {c d : List Content} → WithoutIn key a b
    → WithoutIn key c d → WithoutIn key (a ++ c) (b ++ d)
without_in_both a b before spec.none = simp append-nil before
without_in_both a b before (spec.lost x later is) =
    simp (← append_assoc) (spec.lost x (without_in_both a b before later) is)
without_in_both a b before (spec.kept x later other) =
    simp (← append_assoc) (spec.kept x (without_in_both a b before later) other)

-- what a piece has in the section of a key
pub none_in_piece : (key : Key) (h : Held) (section : Option Section)
    → (¬ (IsIn key (section_after h section))) ⊎ (is_item h ≡ false) → NoneIn key (contents_in h section)
none_in_piece key (held.Entry parts) section (inl other) = spec.kept _ spec.none other
none_in_piece key (held.Entry parts) section (inr no_item) = absurd (true≢false no_item)
none_in_piece key h section either = spec.none

still_outside : (key : Key) (h : Held) (section : Option Section) → ¬ (IsHeaderHeld key h)
    → ¬ (IsIn key section) → ¬ (IsIn key (section_after h section))
still_outside key (held.Header new) section other outside = other
still_outside key h section other outside = outside

-- the same text read from another line on has the same entries, on other lines
relined : {section : Option Section} {line : ℕ} {text : List ℕ} {entries : List Entry}
    → Reads section line text entries None → (other : ℕ)
    → (later : List Entry) × (next : Option Section) × (end : ℕ) × Leads section other text later next end []
    × (map content later ≡ map content entries)
relined {section = section} file.ends other = ([], section, other, reached.here, refl)
relined (file.blank is h) other =
    let (later, next, end, leads, same) = relined h other in (later, next, end, reached.blank is leads, same)
relined (file.line_end is h) other =
    let (later, next, end, leads, same) = relined h (other + 1) in
    (later, next, end, reached.line_end is leads, same)
relined (file.comment is run h) other =
    let (later, next, end, leads, same) = relined h other in
    (later, next, end, reached.comment is run leads, same)
relined (file.header is header h) other =
    let (later, next, end, leads, same) = relined h other in
    (later, next, end, reached.header is header leads, same)
relined (file.entry {section = section} {lines = lines} {key = key} {value = value} letter takes h) other =
    let (later, next, end, leads, same) = relined h (other + lines) in
    (_, next, end, reached.entry letter takes leads, ap (λ l. (section, key, value) ∷ l) same)

pub reads_end : {text : List ℕ} {entries : List Entry} {line : ℕ} → Reads None line text entries None
    → Ends None text (map content entries)
reads_end reads = λ other.
    let (later, next, end, leads, same) = relined reads other in
    (later, rw append-nil at (compose leads file.ends), same)

-- a file without its mark
begun_is : {text rest mark body : List ℕ} {line : ℕ} → file.Begins text line rest → IsSplit text mark body
    → rest ≡ body
begun_is begins (cut.marked f) = (begins_only begins (file.marked f)).1
begun_is (file.marked e) (cut.unmarked f) = cc
begun_is (file.part_of_mark part) (cut.unmarked f) = refl
begun_is (file.unmarked none other) (cut.unmarked f) = refl

pub body_ends : {text mark body : List ℕ} {entries : List Entry} → IsFile text entries None
    → IsSplit text mark body → Ends None body (map content entries)
body_ends is_file split = rw (begun_is is_file.begins split) at (reads_end is_file.reads)

-- a text with the mark of another
begins_one : (text : List ℕ) (entries : List Entry) → Reads None 1 text entries None → file.Begins text 1 text
begins_one [] entries reads = file.unmarked refl (λ part. part)
begins_one (b ∷ text) entries reads = begins_unmarked b text (begins_no_mark reads)

pub file_of : {text mark body new : List ℕ} {contents : List Content} → IsSplit text mark body
    → Ends None new contents → HasContents (mark ++ new) contents
file_of {new = new} (cut.unmarked none) ends =
    let (entries, reads, same) = ends 1 in
    (entries, record { line = 1; rest = new; begins = begins_one new entries reads; reads = reads }, same)
file_of {new = new} (cut.marked is) ends =
    let (entries, reads, same) = ends 1 in
    (entries, record { line = 1; rest = new; begins = file.marked refl; reads = reads }, same)

pub split_joined : {text mark body : List ℕ} → IsSplit text mark body → text ≡ mark ++ body
split_joined (cut.unmarked none) = refl
split_joined (cut.marked {text = text} {body = body} is) = mark_is text body is

pub text_of : {text mark body : List ℕ} {contents : List Content} → IsSplit text mark body
    → Ends None body contents → HasContents text contents
text_of split ends = rw (split_joined split) (file_of split ends)

pub no_file : {text mark body : List ℕ} → IsSplit text mark body
    → ((contents : List Content) → ¬ (Ends None body contents)) → (entries : List Entry)
    → ¬ (IsFile text entries None)
no_file split none entries = λ is_file. none (map content entries) (body_ends is_file split)
