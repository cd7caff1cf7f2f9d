-- Loops that go through the parts of a text.
use Rattle.std.proofs.Common.{◌≡◌, ◌≢◌, ℕ, ◌+◌, ◌<◌, Bool, true, false, not, List, [], ◌∷◌, ◌++◌, Option}
use Rattle.std.proofs.Common.{None, length}
use Rattle.std.proofs.Common.{refl, sym, ap, ◌∙◌, append_assoc, append-nil, arith, true≢false}
use Rattle.std.specs.List.{list_all}
use Rattle.std.proofs.lemmas.Bool.{and_parts}
use Rattle.std.proofs.lemmas.List.Folds.{list_all-append}
use Rattle.std.proofs.lemmas.List.{append_cancel_left, append_cancel_right}
use Rattle.config_edit.specs.declared.piece.Held.{Held}
use Rattle.config_edit.specs.declared.piece.Held.TheVariants as held
use Rattle.config_edit.specs.declared.piece.Piece.{Piece}
use Rattle.config_file.specs.Header.{Section}
use Rattle.config_file.specs.Key.{Key}
use Rattle.config_edit.specs.Cut as cut
use Rattle.config_edit.specs.Cut.{Part, part_bytes, parts_bytes, entries_in, ends_in_header, section_from}
use Rattle.config_edit.specs.Cut.{section_behind}
use Rattle.config_edit.specs.Cut.{is_header, HaveNoHeader}
use Rattle.config_edit.specs.Edit as spec
use Rattle.config_edit.specs.Edit.{IsEntryOf}
use Rattle.config_edit.specs.Reading.{IsPiece, IsCut, AllStay, IsEntryHeld, contents_in, section_after}
use Rattle.config_edit.specs.Reading.{holds_header}
use Rattle.config_edit.proofs.Cuts.{part_of, cut_more, section_more, IsPartOf}

pub entries_join : (a b : List Part) → entries_in (a ++ b) ≡ entries_in a + entries_in b
entries_join [] b = omega arith
entries_join (cut.header blanks section inner ∷ a) b = entries_join a b
entries_join (cut.entry blanks key between value tail is_line ∷ a) b = let more = entries_join a b in
    omega (arith, more)
entries_join (cut.line tail is_line ∷ a) b = entries_join a b

pub bytes_join : (a b : List Part) → parts_bytes (a ++ b) ≡ parts_bytes a ++ parts_bytes b
bytes_join [] b = refl
bytes_join (part ∷ a) b =
    ap (λ t. part_bytes part ++ t) (bytes_join a b)
    ∙ sym (append_assoc (part_bytes part) (parts_bytes a) (parts_bytes b))

pub bytes_more : (parts : List Part) (part : Part)
    → parts_bytes (parts ++ part ∷ []) ≡ parts_bytes parts ++ part_bytes part
bytes_more parts part = bytes_join parts (part ∷ [])
    ∙ ap (λ b. parts_bytes parts ++ b) (append-nil (part_bytes part))

pub last_is_header : (before : List Part) (part : Part) → ends_in_header (before ++ part ∷ []) ≡ is_header part
last_is_header [] part = refl
last_is_header (first ∷ []) part = refl
last_is_header (first ∷ second ∷ before) part = last_is_header (second ∷ before) part

pub no_header_more : (parts : List Part) (last : Part) → HaveNoHeader parts → is_header last ≡ false
    → HaveNoHeader (parts ++ last ∷ [])
no_header_more parts last all other =
    list_all-append (λ part. not (is_header part)) parts (last ∷ []) ∙ rw (all, other) refl

pub has_header : (parts back : List Part) (part : Part) → HaveNoHeader (parts ++ part ∷ back)
    → is_header part ≡ true → ⊥
has_header parts back part all is =
    let test = λ (part : Part). not (is_header part) in
    let (front, later) = and_parts (list_all test parts) (list_all test (part ∷ back))
    (sym (list_all-append test parts (part ∷ back)) ∙ all) in
    let here = (and_parts (test part) (list_all test back) later).0 in
    true≢false (sym here ∙ ap not is)

-- what a piece says of its part
pub is_header_held : (h : Held) (blanks bytes rest : List ℕ) (is_line : Bool) (part : Part)
    → IsPartOf h blanks bytes rest is_line part → is_header part ≡ holds_header h
is_header_held (held.Header section) blanks bytes rest is_line part (inner, is) = rw is refl
is_header_held (held.Entry parts) blanks bytes rest is_line part (between, tail, is, left) = rw is refl
is_header_held h blanks bytes rest is_line part is = rw is refl

entries_held : (h : Held) (blanks bytes rest : List ℕ) (is_line : Bool) (part : Part) (section : Option Section)
    → IsPartOf h blanks bytes rest is_line part → entries_in (part ∷ []) ≡ length (contents_in h section)
entries_held (held.Header new) blanks bytes rest is_line part section (inner, is) = rw is refl
entries_held (held.Entry parts) blanks bytes rest is_line part section (between, tail, is, left) = rw is refl
entries_held h blanks bytes rest is_line part section is = rw is refl

section_held : (h : Held) (blanks bytes rest : List ℕ) (is_line : Bool) (part : Part) (section : Option Section)
    → IsPartOf h blanks bytes rest is_line part → section_behind section part ≡ section_after h section
section_held (held.Header new) blanks bytes rest is_line part section (inner, is) = rw is refl
section_held (held.Entry parts) blanks bytes rest is_line part section (between, tail, is, left) = rw is refl
section_held h blanks bytes rest is_line part section is = rw is refl

pub entry_held : (h : Held) (blanks bytes rest : List ℕ) (is_line : Bool) (part : Part)
    {section : Option Section} (key : Key)
    (before : List Part) → IsPartOf h blanks bytes rest is_line part → section_from None before ≡ section
    → IsEntryOf key before part → IsEntryHeld key section h
entry_held (held.Header new) blanks bytes rest is_line part key before (inner, is) same of = rw is at of
entry_held (held.Entry parts) blanks bytes rest is_line part key before (between, tail, is, left) same of =
    rw same at (rw is at of)
entry_held h blanks bytes rest is_line part key before is same of = rw is at of

-- a piece more
pub cut_begins : (text : List ℕ) → IsCut text text None 0 []
cut_begins text = record { joined = refl; cuts = λ later c. c; section_is = refl; counted = refl }

some_bytes : (text bytes rest : List ℕ) → text ≡ bytes ++ rest → length rest < length text → bytes ≢ []
some_bytes text bytes rest joined shorter none =
    let same : text ≡ rest = joined ∙ ap (λ b. b ++ rest) none in
    let size = ap (λ t. length t) same in absurd (omega arith)

-- a part more, as the piece says
pub record CutMore (text : List ℕ) (section : Option Section) (count : ℕ) (before : List Part)
    (piece : Piece) : Type 0 where
  pub part : Part
  pub part_is : part_bytes part ≡ piece.bytes.now
  pub is_of : IsPartOf piece.held piece.blanks.now piece.bytes.now piece.rest.now piece.is_line part
  pub cut : IsCut text piece.rest.now (section_after piece.held section)
      (count + length (contents_in piece.held section))
      (before ++ part ∷ [])
  pub in_header : holds_header piece.held ≡ ends_in_header (before ++ part ∷ [])

pub cut_step : {text rest : List ℕ} {section : Option Section} {count : ℕ} {before : List Part} (piece : Piece)
    → IsCut text rest section count before → IsPiece rest piece → length piece.rest.now < length rest
    → CutMore text section count before piece
cut_step {text = text} {rest = rest} {section = section} {count = count} {before = before} piece c is shorter =
    let left = piece.rest.now in
    let (part, part_is, is_part, is_of) = part_of piece (some_bytes rest piece.bytes.now left is.joined shorter) is in
    let rest_is : rest ≡ part_bytes part ++ left = is.joined ∙ ap (λ b. b ++ left) (sym part_is) in
    record {
      part = part;
      part_is = part_is;
      is_of = is_of;
      cut = record {
        joined = c.joined ∙ ap (λ r. parts_bytes before ++ r) rest_is
            ∙ sym (append_assoc (parts_bytes before) (part_bytes part) left)
            ∙ ap (λ b. b ++ left) (sym (bytes_more before part));
        cuts = cut_more before part left (rw rest_is at c.cuts) is_part;
        section_is = section_more None before part ∙ ap (λ s. section_behind s part) c.section_is
            ∙ section_held piece.held piece.blanks.now piece.bytes.now left piece.is_line part section is_of;
        counted = entries_join before (part ∷ []) ∙ ap (λ n. n + entries_in (part ∷ [])) c.counted
            ∙ ap (λ n. count + n) (entries_held piece.held piece.blanks.now piece.bytes.now left piece.is_line part section is_of);
      };
      in_header = sym (last_is_header before part
          ∙ is_header_held piece.held piece.blanks.now piece.bytes.now left piece.is_line part is_of);
    }

-- a part more that is no entry of the key
pub stay_more : {key : Key} {before : List Part} {bytes : List ℕ} (between : List Part) (part : Part)
    → AllStay key before between bytes → ¬ (IsEntryOf key (before ++ between) part)
    → AllStay key before (between ++ part ∷ []) (bytes ++ part_bytes part)
stay_more {before = before} {bytes = bytes} between part stays other = λ value last new h.
    rw (← append_assoc before between (part ∷ []), ← append_assoc new bytes (part_bytes part))
    (cut.next part (part_bytes part) (stays value last new h) (spec.stays other))

pub none_stay : (key : Key) (before : List Part) → AllStay key before [] []
none_stay key before = λ value last new h. rw (append-nil before, append-nil new) h
