-- What is read of the parts of a text, and the loops that go through them.
use Rattle.std.proofs.Common.{◌≡◌, ◌≢◌, ℕ, ◌<◌, Bool, true, false, List, [], ◌∷◌, ◌++◌, Option, None, length}
use Rattle.std.proofs.Common.{refl, sym, ap, ◌∙◌, append-nil, inl, inr, ◌⊎◌, true≢false, arith}
use Rattle.std.proofs.lemmas.List.{append_cancel_right}
use Rattle.config_edit.specs.declared.piece.Held.{Held}
use Rattle.config_edit.specs.declared.piece.Held.TheVariants as held
use Rattle.config_edit.specs.declared.piece.Piece.{Piece}
use Rattle.config_file.specs.Header.{Section}
use Rattle.config_file.specs.File as file
use Rattle.config_file.specs.Key.{Key}
use Rattle.config_edit.specs.Edit.{Content}
use Rattle.config_edit.specs.Cut as cut
use Rattle.config_edit.specs.Cut.{Part, IsPart, Cuts, IsTail, AreBlank, part_bytes, value_bytes, section_behind}
use Rattle.config_edit.specs.Sections.{IsHeaderIn}
use Rattle.std.specs.List.{AllByRecursion}
use Rattle.config_file.proofs.ListsA.{all_appended}
use Rattle.config_edit.specs.Reading.{Ends, Passed, anywhere, at_end, IsRead, IsPiece, IsBehind, IsFoundIn}
use Rattle.config_edit.specs.Reading.{IsHeaderHeld}
use Rattle.config_edit.proofs.Cuts.{cut_more, IsPartOf}
use Rattle.config_edit.proofs.Edits.{holds_nothing, holds_end, passed_join, ends_once, all_passed, some_left}
use Rattle.config_edit.proofs.Edits.{joined_more}
use Rattle.config_edit.proofs.Pieces.{entry_passed, header_holds, header_moved, line_passed, made_passed}
use Rattle.config_edit.proofs.Pieces.{takes_before}

-- what is read of parts
abbrev pub part_contents : Option Section → Part → List Content
part_contents section (cut.entry blanks key between value tail is_line) = (section, key, value) ∷ []
part_contents section _ = []

abbrev pub contents_of : Option Section → List Part → List Content
contents_of section [] = []
contents_of section (part ∷ parts) =
    part_contents section part ++ contents_of (section_behind section part) parts

part_passed : (part : Part) (rest : List ℕ) → IsPart part rest → (section : Option Section)
    → Passed section (part_bytes part) (part_contents section part) (section_behind section part) rest
part_passed (cut.header blanks new inner) rest (all, is) section =
    let (front, joined, moved) = header_moved is in
    let same = append_cancel_right inner front rest joined in
    anywhere (header_holds all (record { inner = inner; joined = refl; header = rw (← same) at moved }) section)
part_passed (cut.entry blanks key between value tail is_line) rest (
  all,
  (b, more, begins, letter),
  (lines, takes),
  t,
) section =
    let at = tail ++ rest in
    entry_passed blanks is_line all (record {
      front = key ++ (between ++ value_bytes value);
      tail = tail;
      begins = (b, more ++ at, ap (λ f. f ++ at) begins, letter);
      takes = takes;
      left = refl;
      is_tail = t;
      joined = refl;
    }) section
part_passed (cut.line tail is_line) rest (some, t) section = line_passed is_line t section

reads_on : {section middle : Option Section} {bytes rest : List ℕ} {xs ys : List Content}
    → Passed section bytes xs middle rest → Ends middle rest ys → Ends section (bytes ++ rest) (xs ++ ys)
reads_on {bytes = bytes} {rest = rest} (anywhere holds) ends = holds_end bytes rest holds ends
reads_on {middle = middle} {bytes = bytes} (at_end none here) ends =
    let nothing = ends_once (λ line. ([], file.ends, refl)) (rw none at ends) in
    rw (none, ← nothing, append-nil, append-nil) here

-- a text that is cut in parts is read to its end
pub cuts_end : {text : List ℕ} {parts : List Part} → Cuts text parts → (section : Option Section)
    → Ends section text (contents_of section parts)
cuts_end cut.ends section = λ line. ([], file.ends, refl)
cuts_end (cut.begins {rest = rest} part is more) section =
    reads_on (part_passed part rest is section) (cuts_end more (section_behind section part))

-- a part is the same before any other text, if a line end ends it or it is a header
moved_tail : {tail rest : List ℕ} {is_line : Bool} (other : List ℕ) → IsTail tail rest is_line
    → (rest ≡ [] → other ≡ []) → IsTail tail other is_line
moved_tail other t none =
    record {
      blanks = t.blanks;
      comment = t.comment;
      are_blank = t.are_blank;
      is_comment = t.is_comment;
      ends = elim t.ends [
        | inl l ↦ inl l
        | inr e ↦ inr (e.0, none e.1, e.2)
      ];
    }

pub part_moved : (part : Part) (rest other : List ℕ) → IsPart part rest → (rest ≡ [] → other ≡ [])
    → IsPart part other
part_moved (cut.header blanks section inner) rest other (all, is) none =
    let (front, joined, moved) = header_moved is in
    let same = append_cancel_right inner front rest joined in
    (all, rw (← same) at (moved other))
part_moved (cut.entry blanks key between value tail true) rest other (all, letter, (lines, takes), t) none = (
  all,
  letter,
  (lines, takes_before (key ++ (between ++ value_bytes value)) tail takes t other),
  moved_tail other t none,
)
part_moved (cut.entry blanks key between value tail false) rest other (all, letter, (lines, takes), t) none =
    elim t.ends [
      | inl l ↦ absurd (true≢false (sym l.0))
      | inr e ↦
          let same : rest ≡ other = e.1 ∙ sym (none e.1) in
          (all, letter, (lines, rw same at takes), moved_tail other t none)
    ]
part_moved (cut.line tail is_line) rest other (some, t) none = (some, moved_tail other t none)

-- behind the parts of a text
pub behind_begins : (text : List ℕ) → IsBehind text text []
behind_begins text =
    record {
      front = [];
      contents = [];
      section = None;
      joined = refl;
      passed = anywhere (holds_nothing None);
      cuts = λ later cuts. cuts;
    }

-- one piece more
pub behind_more : {text rest : List ℕ} {done : List Part} (piece : Piece) → IsBehind text rest done
    → IsPiece rest piece
    → length piece.rest.now < length rest → (part : Part) → part_bytes part ≡ piece.bytes.now
    → IsPart part piece.rest.now
    → IsBehind text piece.rest.now (done ++ part ∷ [])
behind_more {text = text} {rest = rest} {done = done} piece b is shorter part bytes_are is_part =
    record {
      front = b.front ++ piece.bytes.now;
      contents = _;
      section = _;
      joined = joined_more text b.front rest piece.bytes.now piece.rest.now b.joined is.joined;
      passed = passed_join (some_left rest piece.rest.now shorter) b.passed
          (made_passed piece.held piece.blanks.now piece.is_line is.blank is.made b.section);
      cuts = cut_more done part piece.rest.now (rw (is.joined, ← bytes_are) at b.cuts) is_part;
    }

-- where no piece is left, these are the parts of the text
pub behind_all : {text rest : List ℕ} {done : List Part} {contents : List Content} → IsBehind text rest done
    → Ends None text contents → (rest ≡ []) ⊎ (¬ (IsRead rest)) → Cuts text done
behind_all {rest = rest} {done = done} b whole left =
    let (none, text_is, contents_are) = all_passed b.joined b.passed whole left in
    rw append-nil at (b.cuts [] (rw none cut.ends))

-- the bytes of a piece
pub some_bytes : {rest : List ℕ} (piece : Piece) → IsPiece rest piece → length piece.rest.now < length rest
    → piece.bytes.now ≢ []
some_bytes piece is shorter none =
    let same = ap (λ l. length l) (is.joined ∙ ap (λ b. b ++ piece.rest.now) none) in omega arith

-- whether a part is a header of a section of the key
pub header_held : (key : Key) (h : Held) (blanks bytes rest : List ℕ) (is_line : Bool) (part : Part)
    → IsPartOf h blanks bytes rest is_line part → IsHeaderHeld key h → IsHeaderIn key part
header_held key (held.Header section) blanks bytes rest is_line part (inner, is) h = rw is h
header_held key (held.Entry parts) blanks bytes rest is_line part is h = absurd h
header_held key other_held blanks bytes rest is_line part is h = absurd h

pub header_in : (key : Key) (h : Held) (blanks bytes rest : List ℕ) (is_line : Bool) (part : Part)
    → IsPartOf h blanks bytes rest is_line part → IsHeaderIn key part → IsHeaderHeld key h
header_in key (held.Header section) blanks bytes rest is_line part (inner, is) h = rw is at h
header_in key (held.Entry parts) blanks bytes rest is_line part (between, tail, is, left) h = rw is at h
header_in key other_held blanks bytes rest is_line part is h = rw is at h

pub all_front : {X : Type 0} (Is : X → Type 0) (a b : List X) → AllByRecursion Is (a ++ b)
    → AllByRecursion Is a × AllByRecursion Is b
all_front Is [] b all = (tt, all)
all_front Is (x ∷ a) b (is, all) = let (first, second) = all_front Is a b all in ((is, first), second)

-- one part more is no such header
pub found_before : (key : Key) (done : List Part) (part : Part) (is_found : Bool) → IsFoundIn key done is_found
    → ¬ (IsHeaderIn key part) → IsFoundIn key (done ++ part ∷ []) is_found
found_before key done part true found other = λ none. found (all_front _ done (part ∷ []) none).0
found_before key done part false found other = all_appended _ done (part ∷ []) found (other, tt)

pub found_here : (key : Key) (done : List Part) (part : Part) → IsHeaderIn key part
    → IsFoundIn key (done ++ part ∷ []) true
found_here key done part is = λ none. (all_front _ done (part ∷ []) none).1.0 is
