-- Texts without the sections of a key.
use Rattle.std.proofs.Common.{◌≡◌, ◌≢◌, ℕ, ◌<◌, Bool, true, false, List, [], ◌∷◌, ◌++◌, Option, Some, None}
use Rattle.std.proofs.Common.{length}
use Rattle.std.proofs.Common.{MatchOption, IfSome, not, is_some, refl, sym, ap, ◌∙◌, subst, append_assoc}
use Rattle.std.proofs.Common.{append-nil, inl, inr}
use Rattle.std.proofs.Common.{◌⊎◌, arith, true≢false}
use Rattle.std.specs.Prelude.{⊤}
use Rattle.std.proofs.lemmas.Bool.Decides.{nat_tests}
use Rattle.std.proofs.lemmas.List.{append_cancel_right}
use Rattle.config_edit.specs.declared.sections.Lost.{Lost}
use Rattle.config_edit.specs.declared.piece.Held.{Held}
use Rattle.config_edit.specs.declared.piece.Held.TheVariants as held
use Rattle.config_edit.specs.declared.piece.Piece.{Piece}
use Rattle.config_file.specs.declared.section.Section as code
use Rattle.config_file.specs.Bytes.{is_blank, is_comment_sign}
use Rattle.config_file.specs.Runs.{StopsRun}
use Rattle.config_file.specs.Header.{Section}
use Rattle.config_file.specs.Key.{Key}
use Rattle.config_file.specs.Views.{section_of}
use Rattle.config_edit.proofs.Pieces.{comment_behind}
use Rattle.config_edit.specs.Edit as edit
use Rattle.config_edit.specs.Edit.{Content, IsIn, WithoutIn, IsEndOfLine}
use Rattle.config_edit.specs.Cut as cut
use Rattle.config_edit.specs.Cut.{Part, IsPart, Cuts, IsTail, IsComment, absent, present, HasComment}
use Rattle.config_edit.specs.Cut.{AreBlank, part_bytes, parts_bytes, ends_line, section_behind, is_header}
use Rattle.config_edit.specs.Cut.{HaveNoHeader}
use Rattle.config_edit.proofs.Changed.{both_blank}
use Rattle.config_edit.specs.Sections as spec
use Rattle.std.specs.List.{AllByRecursion}
use Rattle.config_file.proofs.ListsA.{all_appended}
use Rattle.config_edit.specs.Sections.{NoneIs, IsHeaderIn, IsCommentLine, BeginsWithHeader, Clears}
use Rattle.config_edit.specs.Sections.{EndsInComments, EndsInNoComment, LastEnd, Stays, end_of, goes_on_behind}
use Rattle.config_edit.specs.Reading.{Ends, IsRead, IsPiece, IsMade, IsHeaderHeld, IsFoundIn, Clearing, IsKept}
use Rattle.config_edit.specs.Reading.{IsLost, IsAtLine, EndsNoLine, ClearsPiece, holds_header}
use Rattle.config_edit.specs.Reading.{IsLineEnd}
use Rattle.std.proofs.lemmas.Bool.{and_parts}
use Rattle.config_edit.proofs.CutLoops.{has_header, is_header_held, no_header_more}
use Rattle.config_edit.proofs.CutLoops as loops
use Rattle.config_edit.proofs.Edits.{without_in_both, some_left}
use Rattle.config_edit.proofs.OnePart.{line_end_of, line_end_once}
use Rattle.config_edit.proofs.Cuts.{part_of, one_cut, IsPartOf, no_part, same_last}
use Rattle.config_edit.proofs.PartsRead.{part_contents, contents_of, part_moved, behind_begins, behind_more}
use Rattle.config_edit.proofs.PartsRead.{behind_all}
use Rattle.config_edit.proofs.PartsRead.{some_bytes, header_held, header_in, found_before, all_front}

-- what the parts of pieces are
line_of : (h : Held) (blanks bytes rest : List ℕ) (is_line : Bool) (part : Part) → EndsNoLine h is_line
    → IsPartOf h blanks bytes rest is_line part → ends_line part ≡ is_line
line_of (held.Header section) blanks bytes rest is_line part ends (inner, is) = rw (is, ends) refl
line_of (held.Entry parts) blanks bytes rest is_line part ends (between, tail, is, left) = rw is refl
line_of h blanks bytes rest is_line part ends is = rw is refl

no_header_part : (h : Held) (blanks bytes rest : List ℕ) (is_line : Bool) (part : Part)
    → ((header : code.Section) → h ≡ held.Header header → ⊥)
    → IsPartOf h blanks bytes rest is_line part → is_header part ≡ false
no_header_part (held.Header section) blanks bytes rest is_line part no_header is =
    absurd (no_header section refl)
no_header_part h blanks bytes rest is_line part no_header is =
    is_header_held h blanks bytes rest is_line part is

header_is : (key : Key) (part : Part) → IsHeaderIn key part → is_header part ≡ true
header_is key (cut.header blanks section inner) is = refl
header_is key (cut.entry blanks name between value tail is_line) is = absurd is
header_is key (cut.line tail is_line) is = absurd is

comment_part : (h : Held) (blanks bytes rest : List ℕ) (is_line : Bool) (part : Part) → h ≡ held.Comment
    → IsMade h blanks bytes rest is_line → IsPartOf h blanks bytes rest is_line part → IsCommentLine part
comment_part held.Comment blanks bytes rest is_line part e (t, has) is = rw is has
comment_part h blanks bytes rest is_line part e made is = cc

no_comment_part : (h : Held) (blanks bytes rest : List ℕ) (is_line : Bool) (part : Part)
    → (h ≡ held.Comment → ⊥)
    → IsMade h blanks bytes rest is_line → IsPartOf h blanks bytes rest is_line part → ¬ (IsCommentLine part)
no_comment_part (held.Header section) blanks bytes rest is_line part other made (inner, is) = rw is (λ h. h)
no_comment_part (held.Entry parts) blanks bytes rest is_line part other made (between, tail, is, left) =
    rw is (λ h. h)
no_comment_part held.Nothing blanks bytes rest is_line part other (t, none) is = rw is none
no_comment_part held.Comment blanks bytes rest is_line part other made is = absurd (other refl)

-- behind a part that is no header a line begins, or the text ends
line_or_end : (part : Part) (rest : List ℕ) → IsPart part rest → is_header part ≡ false
    → (ends_line part ≡ true) ⊎ (rest ≡ [])
line_or_end (cut.header blanks section inner) rest is other = absurd (true≢false other)
line_or_end (cut.entry blanks key between value tail is_line) rest (all, letter, takes, t) other = elim t.ends [
  | inl l ↦ inl l.0
  | inr e ↦ inr e.1
]
line_or_end (cut.line tail is_line) rest (some, t) other = elim t.ends [
  | inl l ↦ inl l.0
  | inr e ↦ inr e.1
]

pub clearing_begins : (key : Key) (text : List ℕ) → Clearing key text text [] false None false true
clearing_begins key text =
    record { done = []; behind = behind_begins text; clears = λ later more any c. c; found = tt }

-- a piece that stays
keeps_part : {key : Key} {later : List Part} {more : List ℕ} {in_line : Bool} (part : Part) (bytes : List ℕ)
    (is_line : Bool)
    → part_bytes part ≡ bytes → ends_line part ≡ is_line → ¬ (IsHeaderIn key part)
    → Clears key (not is_line) later more
    → Clears key in_line (part ∷ later) (bytes ++ more)
keeps_part part bytes is_line bytes_are ends other c =
    rw (← bytes_are) (spec.kept part other (rw (← ends) at c))

pub piece_kept : {Next : List Part
    → Type 0} {key : Key} {text rest new : List ℕ} {is_found in_line : Bool} (piece : Piece)
    → IsKept Next key text rest new is_found in_line → IsPiece rest piece → length piece.rest.now < length rest
    → ¬ (IsHeaderHeld key piece.held)
    → ((part : Part) → IsPartOf piece.held piece.blanks.now piece.bytes.now piece.rest.now piece.is_line part
    → (later : List Part) → Next (part ∷ later))
    → IsKept (λ later. ⊤) key text piece.rest.now (new ++ piece.bytes.now) is_found (not piece.is_line)
piece_kept {key = key} {new = new} {is_found = is_found} piece r is shorter other next =
    let (part, bytes_are, is_part, held_is) = part_of piece (some_bytes piece is shorter) is in
    let ends = line_of piece.held _ _ _ piece.is_line part is.unended held_is in
    let not_in : ¬ (IsHeaderIn key part) = λ h. other (header_in key piece.held _ _ _ piece.is_line part held_is h) in
    record {
      done = r.done ++ part ∷ [];
      behind = behind_more piece r.behind is shorter part bytes_are is_part;
      clears = λ later more any c.
          rw (append_assoc r.done (part ∷ []) later, append_assoc new piece.bytes.now more)
          (r.clears (part ∷ later) (piece.bytes.now ++ more) (next part held_is later)
          (keeps_part part piece.bytes.now piece.is_line bytes_are ends not_in c));
      found = found_before key r.done part is_found r.found not_in;
    }

not_held : (key : Key) (h : Held) → ((header : code.Section) → h ≡ held.Header header → ⊥)
    → ¬ (IsHeaderHeld key h)
not_held key (held.Header section) no_header = absurd (no_header section refl)
not_held key h no_header = λ is. is

-- where a header follows, and nothing is lost before it, or this section
pub at_header : (key : Key) (text rest new put : List ℕ) (is_found in_line starts_line goes_on : Bool)
    (was : Option Lost)
    → Clearing key text rest new is_found was in_line starts_line
    → MatchOption was ((put ≡ new) × (goes_on ≡ in_line)) (λ last. (comments : List ℕ)
    × (last.comments.now ≡ comments ++ rest)
    × (put ≡ new ++ (end_of in_line last.line_end.now ++ comments))
    × (goes_on ≡ goes_on_behind in_line last.line_end.now))
    → IsKept BeginsWithHeader key text rest put is_found goes_on
at_header key text rest new put is_found in_line starts_line goes_on None r (put_is, goes_is) =
    rw (put_is, goes_is) (record {
      done = r.done;
      behind = r.behind;
      clears = λ later more begins c.
          r.clears later more tt c;
      found = r.found;
    })
at_header key text rest new put is_found in_line starts_line goes_on (Some lost) (r, found) (
  comments,
  is,
  put_is,
  goes_is,
) =
    let same : comments ≡ parts_bytes r.comments =
    append_cancel_right comments (parts_bytes r.comments) rest (sym is ∙ r.cut) in
    let left = end_of in_line lost.line_end.now ++ parts_bytes r.comments in
    rw (put_is, goes_is, found, same) (record {
      done = r.before ++ r.head ∷ r.body;
      behind = r.behind;
      clears = λ later more begins c.
          let gone = spec.lost r.head r.body r.comments r.is_header r.no_header (inl (begins, r.ends)) r.last_end c in
          rw (append_assoc r.before (r.head ∷ r.body) later, append_assoc new left more)
          (r.clears (r.head ∷ (r.body ++ later)) (left ++ more) (header_is key r.head r.is_header) gone);
      found = λ none. (all_front _ r.before (r.head ∷ r.body) none).1.0 r.is_header;
    })

-- the header that follows
pub then_header : (key : Key) (text rest put : List ℕ) (is_found in_line : Bool) (now : Option Lost)
    (piece : Piece)
    → IsKept BeginsWithHeader key text rest put is_found in_line → IsPiece rest piece
    → length piece.rest.now < length rest
    → (header : code.Section) → piece.held ≡ held.Header header
    → MatchOption now (¬ (IsIn key (Some (section_of header)))) (λ lost. IsIn key (Some (section_of header))
    × (lost.comments.now ≡ piece.rest.now) × (lost.line_end.now ≡ []))
    → ClearsPiece key text piece put is_found in_line now
then_header key text rest put is_found in_line None piece r is shorter header e other =
    piece_kept piece r is shorter (λ h. other (subst (λ h. IsHeaderHeld key h) e h))
    (λ part held_is later. is_header_held piece.held _ _ _ piece.is_line part held_is
    ∙ ap (λ h. holds_header h) e)
then_header key text rest put is_found in_line (Some lost) piece r is shorter header e (is_in, cut, end_is) =
    let (part, bytes_are, is_part, held_is) = part_of piece (some_bytes piece is shorter) is in
    let in_key : IsHeaderIn key part = header_held key piece.held _ _ _ piece.is_line part held_is (subst (λ h. IsHeaderHeld key h) (sym e) is_in) in
    let unended : piece.is_line ≡ false = subst (λ h. EndsNoLine h piece.is_line) e is.unended in
    let ends = line_of piece.held _ _ _ piece.is_line part is.unended held_is ∙ unended in
    record {
      before = r.done;
      head = part;
      body = [];
      comments = [];
      behind = behind_more piece r.behind is shorter part bytes_are is_part;
      clears = r.clears;
      is_header = in_key;
      no_header = refl;
      cut = cut;
      ends = spec.header_alone;
      last_end = rw end_is (spec.before [] part ends spec.none);
      at_line = unended;
    }

-- one part more in the body of a section
bytes_more : (parts : List Part) (part : Part) (rest : List ℕ)
    → parts_bytes parts ++ (part_bytes part ++ rest) ≡ parts_bytes (parts ++ part ∷ []) ++ rest
bytes_more parts part rest =
    sym (ap (λ b. b ++ rest) (loops.bytes_more parts part)
    ∙ append_assoc (parts_bytes parts) (part_bytes part) rest)

comment_more : {body comments : List Part} (starts_line : Bool) (rest : List ℕ) (part : Part)
    → EndsInComments body comments
    → IsAtLine body starts_line rest → starts_line ≡ true → IsCommentLine part
    → EndsInComments (body ++ part ∷ []) (comments ++ part ∷ [])
comment_more starts_line rest part spec.header_alone at starts is = absurd (true≢false (sym starts ∙ at))
comment_more starts_line rest part (spec.lines {comments = comments} own lines none all) at starts is =
    rw (append_assoc lines comments (part ∷ []))
    (spec.lines own lines none (all_appended IsCommentLine comments (part ∷ []) all (is, tt)))

other_more : {body comments : List Part} (starts_line : Bool) (rest : List ℕ) (part : Part)
    → EndsInComments body comments
    → IsAtLine body starts_line rest → rest ≢ [] → ¬ ((starts_line ≡ true) × IsCommentLine part)
    → EndsInComments (body ++ part ∷ []) []
other_more starts_line rest part spec.header_alone at some other =
    spec.lines part [] (λ front last e. absurd (no_part front last e)) tt
other_more starts_line rest part (spec.lines {comments = comments} own lines none all)
    (inr nothing) some other = absurd (some nothing)
other_more starts_line rest part (spec.lines {comments = comments} own lines none all) (inl starts) some other =
    let not_last : EndsInNoComment ((lines ++ comments) ++ part ∷ []) =
    λ front last e is. other (starts, rw (sym (same_last (lines ++ comments) front part last e).1) at is) in
    let more : EndsInComments (own ∷ (((lines ++ comments) ++ part ∷ []) ++ [])) [] =
    spec.lines own ((lines ++ comments) ++ part ∷ []) not_last tt in
    rw append-nil at more

at_line_more : (body : List Part) (part : Part) (is_line : Bool) (rest : List ℕ)
    → (is_line ≡ true) ⊎ (rest ≡ [])
    → IsAtLine (body ++ part ∷ []) is_line rest
at_line_more [] part is_line rest at = at
at_line_more (first ∷ body) part is_line rest at = at

pub piece_lost : {key : Key} {text rest new : List ℕ} {in_line starts_line : Bool} (piece : Piece)
    (before after : Lost)
    → IsLost key text rest new before in_line starts_line → IsPiece rest piece
    → length piece.rest.now < length rest
    → ((header : code.Section) → piece.held ≡ held.Header header → ⊥)
    → ((after.comments.now ≡ before.comments.now) × (starts_line ≡ true) × (piece.held ≡ held.Comment))
    ⊎ ((after.comments.now ≡ piece.rest.now) × ¬ ((starts_line ≡ true) × (piece.held ≡ held.Comment)))
    → ((piece.is_line ≡ true) × IsEndOfLine piece.bytes.now true after.line_end.now)
    ⊎ ((piece.is_line ≡ false) × (after.line_end.now ≡ before.line_end.now))
    → IsLost key text piece.rest.now new after in_line piece.is_line
piece_lost {rest = rest} {starts_line = starts_line} piece before after r is shorter no_header how end_is =
    let (part, bytes_are, is_part, held_is) = part_of piece (some_bytes piece is shorter) is in
    let h = piece.held in
    let blanks = piece.blanks.now in
    let not_header = no_header_part h _ _ _ piece.is_line part no_header held_is in
    let ends = line_of h _ _ _ piece.is_line part is.unended held_is in
    let (comments, cut, in_comments) : (comments : List Part) × (after.comments.now ≡ parts_bytes comments ++ piece.rest.now)
    × EndsInComments (r.body ++ part ∷ []) comments = elim how [
      | inl (same, starts, comment) ↦ (
        r.comments ++ part ∷ [],
        same ∙ r.cut ∙ ap (λ x. parts_bytes r.comments ++ x) (is.joined
            ∙ ap (λ b. b ++ piece.rest.now) (sym bytes_are))
            ∙ bytes_more r.comments part piece.rest.now,
        comment_more starts_line rest part r.ends r.at_line starts
            (comment_part h blanks piece.bytes.now piece.rest.now piece.is_line part comment is.made held_is),
      )
      | inr (same, other) ↦ (
        [],
        same,
        other_more starts_line rest part r.ends r.at_line (some_left rest piece.rest.now shorter)
            (λ both. no_comment_part h blanks piece.bytes.now piece.rest.now piece.is_line part (λ e.
            other (both.0, e)) is.made held_is both.1),
      )
    ] in
    record {
      before = r.before;
      head = r.head;
      body = r.body ++ part ∷ [];
      comments = comments;
      behind = rw (append_assoc r.before (r.head ∷ r.body) (part ∷ [])) at
          (behind_more piece r.behind is shorter part bytes_are is_part);
      clears = r.clears;
      is_header = r.is_header;
      no_header = no_header_more r.body part r.no_header not_header;
      cut = cut;
      ends = in_comments;
      last_end = elim end_is [
        | inl (line, is_end) ↦ spec.here (r.head ∷ r.body) part (ends ∙ line) (rw (← bytes_are) at is_end)
        | inr (unended, same) ↦ rw same (spec.before (r.head ∷ r.body) part (ends ∙ unended) r.last_end)
      ];
      at_line = at_line_more r.body part piece.is_line piece.rest.now
          (rw ends at (line_or_end part piece.rest.now is_part not_header));
    }

pub piece_clears : (key : Key) (text rest new : List ℕ) (is_found in_line starts_line : Bool)
    (was now : Option Lost) (piece : Piece)
    → Clearing key text rest new is_found was in_line starts_line → IsPiece rest piece
    → length piece.rest.now < length rest
    → ((header : code.Section) → piece.held ≡ held.Header header → ⊥)
    → MatchOption was (now ≡ None) (λ before. MatchOption now ⊥ (λ after.
    (((after.comments.now ≡ before.comments.now) × (starts_line ≡ true) × (piece.held ≡ held.Comment))
    ⊎ ((after.comments.now ≡ piece.rest.now) × ¬ ((starts_line ≡ true) × (piece.held ≡ held.Comment))))
    × (((piece.is_line ≡ true) × IsEndOfLine piece.bytes.now true after.line_end.now)
    ⊎ ((piece.is_line ≡ false) × (after.line_end.now ≡ before.line_end.now)))))
    → ClearsPiece key text piece new is_found in_line now
piece_clears key text rest new is_found in_line starts_line None now piece r is shorter no_header none =
    rw none (piece_kept piece r is shorter (not_held key piece.held no_header) (λ part held_is later. tt))
piece_clears key text rest new is_found in_line starts_line (Some before) None piece (
  r,
  found,
) is shorter no_header never =
    absurd never
piece_clears key text rest new is_found in_line starts_line (Some before) (Some after) piece (
  r,
  found,
) is shorter no_header (how, ends) =
    piece_lost piece before after r is shorter no_header how ends

-- whether something is lost after the piece
pub still_lost : (key : Key) (text new : List ℕ) (is_found in_line : Bool) (lost : Option Lost) (piece : Piece)
    → ClearsPiece key text piece new is_found in_line lost → is_some lost ≡ true
    → Clearing key text piece.rest.now new true lost in_line piece.is_line
still_lost key text new is_found in_line None piece r none = absurd (true≢false (sym none))
still_lost key text new is_found in_line (Some lost) piece r some = (r, refl)

pub nothing_lost : (key : Key) (text new : List ℕ) (is_found in_line : Bool) (lost : Option Lost)
    (piece : Piece)
    → ClearsPiece key text piece new is_found in_line lost → is_some lost ≡ false
    → Clearing key text piece.rest.now (new ++ piece.bytes.now) is_found lost (not piece.is_line) piece.is_line
nothing_lost key text new is_found in_line None piece r none = r
nothing_lost key text new is_found in_line (Some lost) piece r some = absurd (true≢false some)

-- at the end of the text
pub kept_ends : {key : Key} {text rest new : List ℕ} {contents : List Content} {is_found in_line : Bool}
    → IsKept (λ later. ⊤) key text rest new is_found in_line → Ends None text contents
    → (rest ≡ []) ⊎ (¬ (IsRead rest))
    → (found : Bool) → is_found ≡ found
    → (parts : List Part) × Cuts text parts × Clears key false parts new × IsFoundIn key parts found
kept_ends r whole left found same = (
  r.done,
  behind_all r.behind whole left,
  rw (append-nil, append-nil) at (r.clears [] [] tt spec.none),
  rw same at r.found,
)

pub lost_ends : {key : Key} {text rest new : List ℕ} {contents : List Content} {lost : Lost}
    {in_line starts_line : Bool}
    → IsLost key text rest new lost in_line starts_line → Ends None text contents
    → (rest ≡ []) ⊎ (¬ (IsRead rest))
    → (parts : List Part) × Cuts text parts × Clears key false parts (new ++ end_of in_line lost.line_end.now)
    × IsFoundIn key parts true
lost_ends {key = key} {new = new} {lost = lost} {in_line = in_line} r whole left =
    let gone : Clears _ in_line (r.head ∷ (r.body ++ [])) ((end_of in_line lost.line_end.now ++ []) ++ []) =
    spec.lost r.head r.body [] r.is_header r.no_header (inr (refl, refl)) r.last_end spec.none in (
      r.before ++ r.head ∷ r.body,
      behind_all r.behind whole left,
      simp append-nil at (r.clears (r.head ∷ (r.body ++ [])) _ (header_is key r.head r.is_header) gone),
      λ none. (all_front _ r.before (r.head ∷ r.body) none).1.0 r.is_header,
    )

-- the comments that are lost end in what is left of the text
pub left_is_cut : (key : Key) (text rest new : List ℕ) (is_found in_line starts_line : Bool) (was : Option Lost)
    → Clearing key text rest new is_found was in_line starts_line
    → IfSome was (λ last. (comments : List ℕ) × (last.comments.now ≡ comments ++ rest))
left_is_cut key text rest new is_found in_line starts_line None r = tt
left_is_cut key text rest new is_found in_line starts_line (Some lost) (r, found) =
    (parts_bytes r.comments, r.cut)

-- what is read of the new text
cleared_nothing : {key : Key} {goes_on : Bool} {parts : List Part} {new : List ℕ}
    → Clears key goes_on parts new → parts ≡ []
    → new ≡ []
cleared_nothing spec.none none = refl
cleared_nothing (spec.kept part other h) none = cc
cleared_nothing (spec.lost head body comments is no_header stays end h) none = cc

-- the readings of both texts are in one section, which is none of the key, or a header follows
abbrev Agree : Key → Option Section → Option Section → List Part → Type 0
Agree key old now parts = (BeginsWithHeader parts ⊎ (parts ≡ [])) ⊎ ((old ≡ now) × ¬ (IsIn key old))

agree_kept : {key : Key} {old now : Option Section} (part : Part) (parts : List Part) → ¬ (IsHeaderIn key part)
    → Agree key old now (part ∷ parts)
    → WithoutIn key (part_contents old part) (part_contents now part)
    × (section_behind old part ≡ section_behind now part) × ¬ (IsIn key (section_behind old part))
agree_kept (cut.header blanks section inner) parts other agree = (edit.none, refl, other)
agree_kept part parts other (inl (inr none)) = cc
agree_kept (cut.entry blanks key between value tail is_line) parts other (inl (inl header)) =
    absurd (true≢false (sym header))
agree_kept {old = old} (cut.entry blanks key between value tail is_line) parts other (inr (same, outside)) =
    rw (← same) (edit.kept (old, key, value) edit.none outside, refl, outside)
agree_kept (cut.line tail is_line) parts other (inl (inl header)) = absurd (true≢false (sym header))
agree_kept (cut.line tail is_line) parts other (inr (same, outside)) = (edit.none, same, outside)

body_without : {key : Key} (section : Option Section) (body next : List Part) {left : List Content}
    → HaveNoHeader body
    → IsIn key section → WithoutIn key (contents_of section next) left
    → WithoutIn key (contents_of section (body ++ next)) left
body_without section [] next none is h = h
body_without section (cut.header blanks new inner ∷ body) next none is h = absurd (true≢false (sym none))
body_without section (cut.entry blanks name between value tail is_line ∷ body) next none is h =
    without_in_both ((section, name, value) ∷ []) [] (edit.lost (section, name, value) edit.none is)
    (body_without section body next none is h)
body_without section (cut.line tail is_line ∷ body) next none is h = body_without section body next none is h

parts_behind : {text : List ℕ} (front back : List Part) → Cuts text (front ++ back)
    → (rest : List ℕ) × Cuts rest back
parts_behind {text = text} [] back cuts = (text, cuts)
parts_behind (part ∷ front) back (cut.begins first is cuts) = parts_behind front back cuts

some_header : (a b : List Part) → BeginsWithHeader b → a ++ b ≡ [] → ⊥
some_header [] [] begins e = begins
some_header [] (part ∷ b) begins e = cc
some_header (part ∷ a) b begins e = cc

-- comment lines before other parts
comments_stay : (key : Key) {text new : List ℕ} {later : List Part} (comments next : List Part)
    → Cuts text (comments ++ next)
    → AllByRecursion IsCommentLine comments → BeginsWithHeader next → Cuts new later
    → NoneIs (IsHeaderIn key) later
    → Cuts (parts_bytes comments ++ new) (comments ++ later) × NoneIs (IsHeaderIn key) (comments ++ later)
    × ((section : Option Section) → contents_of section (comments ++ later) ≡ contents_of section later)
comments_stay key [] next cuts all begins more none = (more, none, λ section. refl)
comments_stay key (cut.header blanks section inner ∷ comments) next cuts (is, all) begins more none = absurd is
comments_stay key (cut.entry blanks name between value tail is_line ∷ comments) next cuts (
  is,
  all,
) begins more none = absurd is
comments_stay key {new = new} (cut.line tail is_line ∷ comments) next
    (cut.begins {rest = rest} part is_part cuts) (is, all) begins more none =
    let (now, none_now, same) = comments_stay key comments next cuts all begins more none in
    let bytes = parts_bytes comments ++ new in
    let moved = part_moved (cut.line tail is_line) rest bytes is_part
    (λ end. absurd (some_header comments next begins (one_cut [] _ [] (rw end at cuts) cut.ends))) in
    (rw append_assoc (cut.begins (cut.line tail is_line) moved now), (λ h. h, none_now), same)

last_is_end : {parts : List Part} {end : List ℕ} → LastEnd parts end → (end ≡ []) ⊎ IsLineEnd end
last_is_end spec.none = inl refl
last_is_end (spec.here parts part ends is) = inr (line_end_of is refl)
last_is_end (spec.before parts part ends h) = last_is_end h

no_feed : (blanks : List ℕ) → blanks ++ 10 ∷ [] ≡ [] → ⊥
no_feed [] e = cc
no_feed (b ∷ blanks) e = cc

-- a line end before other parts
end_stays : (key : Key) {new : List ℕ} {later : List Part} (goes_on : Bool) (end : List ℕ)
    → (end ≡ []) ⊎ IsLineEnd end
    → Cuts new later → NoneIs (IsHeaderIn key) later
    → (now : List Part) × Cuts (end_of goes_on end ++ new) now × NoneIs (IsHeaderIn key) now
    × ((section : Option Section) → contents_of section now ≡ contents_of section later)
end_stays key {later = later} false end is cuts none = (later, cuts, none, λ section. refl)
end_stays key {later = later} true end (inl nothing) cuts none = rw nothing (later, cuts, none, λ section. refl)
end_stays key {new = new} {later = later} true end (inr is) cuts none =
    let (blanks, all, end_is) : (blanks : List ℕ) × AreBlank blanks × (end ≡ blanks ++ 10 ∷ []) = elim is [
      | inl feed ↦ ([], refl, feed)
      | inr both ↦ (13 ∷ [], refl, both)
    ] in
    let t : IsTail end new true =
    record { blanks = blanks; comment = []; are_blank = all; is_comment = absent; ends = inl (refl, end_is) } in
    let some : end ≢ [] = λ nothing. no_feed blanks (sym end_is ∙ nothing) in
    (cut.line end true ∷ later, cut.begins (cut.line end true) (some, t) cuts, (λ h. h, none), λ section. refl)

head_reads : (key : Key) (part : Part) → IsHeaderIn key part → (old : Option Section)
    → (part_contents old part ≡ []) × IsIn key (section_behind old part)
head_reads key (cut.header blanks section inner) is old = (refl, is)
head_reads key (cut.entry blanks name between value tail is_line) is old = absurd is
head_reads key (cut.line tail is_line) is old = absurd is

next_begins : {body next comments : List Part} → Stays body next comments → BeginsWithHeader next ⊎ (next ≡ [])
next_begins (inl is) = inl is.0
next_begins (inr is) = inr is.0

lost_stays : (key : Key) {text new : List ℕ} {later : List Part} (goes_on : Bool)
    (body next comments : List Part)
    → Cuts text (body ++ next) → Stays body next comments → (end : List ℕ) → (end ≡ []) ⊎ IsLineEnd end
    → Cuts new later → NoneIs (IsHeaderIn key) later
    → (now : List Part) × Cuts ((end_of goes_on end ++ parts_bytes comments) ++ new) now
    × NoneIs (IsHeaderIn key) now
    × ((section : Option Section) → contents_of section now ≡ contents_of section later)
lost_stays key goes_on body next comments cuts (inr (none, nothing)) end is more no_header =
    rw (nothing, append-nil) (end_stays key goes_on end is more no_header)
lost_stays key goes_on body next comments cuts (inl (begins, spec.header_alone)) end is more no_header =
    rw append-nil (end_stays key goes_on end is more no_header)
lost_stays key goes_on body next comments cuts
    (inl (begins, spec.lines own lines none all)) end is more no_header =
    let (rest, left) = parts_behind (own ∷ lines) (comments ++ next) (rw append_assoc at cuts) in
    let (kept, none_kept, same) = comments_stay key comments next left all begins more no_header in
    let (now, whole, none_now, also) = end_stays key goes_on end is kept none_kept in
    (now, rw append_assoc whole, none_now, λ section. also section ∙ same section)

pub cleared_reads : {key : Key} {goes_on : Bool} {text new : List ℕ} {parts : List Part} → Cuts text parts
    → Clears key goes_on parts new → (old now : Option Section) → Agree key old now parts
    → (later : List Part) × Cuts new later × NoneIs (IsHeaderIn key) later
    × WithoutIn key (contents_of old parts) (contents_of now later)
cleared_reads cut.ends spec.none old now agree = ([], cut.ends, tt, edit.none)
cleared_reads (cut.begins {rest = rest} {parts = parts} first is cuts)
    (spec.kept {new = new} part other h) old now agree =
    let (contents, same, outside) = agree_kept part parts other agree in
    let (later, more, none, without) = cleared_reads cuts h (section_behind old part) (section_behind now part) (inr (same, outside)) in
    let nothing : rest ≡ [] → new ≡ [] =
    λ end. cleared_nothing h (one_cut [] _ [] (rw end at cuts) cut.ends) in (
      part ∷ later,
      cut.begins part (part_moved part rest new is nothing) more,
      (other, none),
      without_in_both (part_contents old part) (part_contents now part) contents without,
    )
cleared_reads {key = key} (cut.begins first is cuts)
    (spec.lost {goes_on = goes_on} {next = next} {end = end}
    {new = new} head body comments is_in no_header stays end_is h) old now agree =
    let (nothing, in_key) = head_reads key head is_in old in
    let section = section_behind old head in
    let (rest, left) = parts_behind body next cuts in
    let (later, more, none, without) = cleared_reads left h section now (inl (next_begins stays)) in
    let (parts, whole, none_now, same) = lost_stays key goes_on body next comments cuts stays end (last_is_end end_is) more none in (
      parts,
      whole,
      none_now,
      rw (nothing, same now) (body_without section body next no_header in_key without),
    )

-- the parts become one text
bodies_same : (a b c d : List Part) → HaveNoHeader a → HaveNoHeader b
    → BeginsWithHeader c ⊎ (c ≡ []) → BeginsWithHeader d ⊎ (d ≡ []) → a ++ c ≡ b ++ d → (a ≡ b) × (c ≡ d)
bodies_same [] [] c d none also first second e = (refl, e)
bodies_same [] (y ∷ b) c d none also (inl header) second e = absurd (has_header [] b y also (rw e at header))
bodies_same [] (y ∷ b) c d none also (inr nothing) second e = cc
bodies_same (x ∷ a) [] c d none also first (inl header) e =
    absurd (has_header [] a x none (rw (sym e) at header))
bodies_same (x ∷ a) [] c d none also first (inr nothing) e = cc
bodies_same (x ∷ a) (y ∷ b) c d none also first second e =
    let tails : a ++ c ≡ b ++ d = cc in
    let (bodies, nexts) = bodies_same a b c d (and_parts (not (is_header x)) _ none).1 (and_parts (not (is_header y)) _ also).1 first second tails in
    let heads : x ≡ y = cc in
    (rw (heads, bodies) refl, nexts)

-- comment lines end other lines in one way
all_end : (first : Part) (a b : List Part) → EndsInNoComment (first ∷ a) → AllByRecursion IsCommentLine b
    → (c : List Part)
    → AllByRecursion IsCommentLine ((first ∷ a) ++ c) → ⊥
all_end first [] b none also c (is, all) = none [] first refl is
all_end first (second ∷ a) b none also c (is, all) =
    all_end second a b (λ front last e. none (first ∷ front) last (ap (λ l. first ∷ l) e)) also c all

comments_same : (a b c d : List Part) → EndsInNoComment a → EndsInNoComment b → AllByRecursion IsCommentLine c
    → AllByRecursion IsCommentLine d
    → a ++ c ≡ b ++ d → c ≡ d
comments_same [] [] c d none also all all_too e = e
comments_same [] (y ∷ b) c d none also all all_too e = absurd (all_end y b d also all_too d (rw e at all))
comments_same (x ∷ a) [] c d none also all all_too e = absurd (all_end x a c none all c (rw (sym e) at all_too))
comments_same (x ∷ a) (y ∷ b) c d none also all all_too e =
    comments_same a b c d (λ front last is. none (x ∷ front) last (ap (λ l. x ∷ l) is))
    (λ front last is. also (y ∷ front) last (ap (λ l. y ∷ l) is)) all all_too (cc)

ends_same : {body other comments also : List Part} → EndsInComments body comments → EndsInComments other also
    → body ≡ other
    → comments ≡ also
ends_same spec.header_alone spec.header_alone e = refl
ends_same spec.header_alone (spec.lines own lines none all) e = cc
ends_same (spec.lines own lines none all) spec.header_alone e = cc
ends_same (spec.lines {comments = c} own lines none all) (spec.lines {comments = d} other more also all_too) e =
    comments_same lines more c d none also all all_too (cc)

stays_same : {body other next left comments also : List Part} → Stays body next comments
    → Stays other left also → body ≡ other
    → next ≡ left → comments ≡ also
stays_same (inl (begins, ends)) (inl (begins_too, ends_too)) e f = ends_same ends ends_too e
stays_same (inr (none, nothing)) (inr (none_too, nothing_too)) e f = nothing ∙ sym nothing_too
stays_same (inl (begins, ends)) (inr (none, nothing)) e f = absurd (rw (f ∙ none) at begins)
stays_same (inr (none, nothing)) (inl (begins, ends)) e f = absurd (rw (sym f ∙ none) at begins)

last_end_same : {a b : List Part} {end also : List ℕ} → LastEnd a end → LastEnd b also → a ≡ b → end ≡ also
last_end_same spec.none spec.none e = refl
last_end_same spec.none (spec.here parts part ends is) e = absurd (no_part parts part e)
last_end_same spec.none (spec.before parts part ends h) e = absurd (no_part parts part e)
last_end_same (spec.here parts part ends is) spec.none e = absurd (no_part parts part (sym e))
last_end_same (spec.before parts part ends h) spec.none e = absurd (no_part parts part (sym e))
last_end_same (spec.here parts part ends is) (spec.here others other ends_too so) e =
    line_end_once is so (ap part_bytes (same_last parts others part other e).1) refl
last_end_same (spec.before parts part ends h) (spec.before others other ends_too k) e =
    last_end_same h k (same_last parts others part other e).0
last_end_same (spec.here parts part ends is) (spec.before others other unended k) e =
    absurd (true≢false (sym ends ∙ ap ends_line (same_last parts others part other e).1 ∙ unended))
last_end_same (spec.before parts part unended h) (spec.here others other ends is) e =
    absurd (true≢false (sym ends ∙ ap ends_line (sym (same_last parts others part other e).1) ∙ unended))

pub one_clearing : {key : Key} {goes_on also_on : Bool} {parts also : List Part} {a b : List ℕ}
    → Clears key goes_on parts a
    → Clears key also_on also b → parts ≡ also → goes_on ≡ also_on → a ≡ b
one_clearing spec.none spec.none e f = refl
one_clearing (spec.kept part other h) (spec.kept also others k) e f =
    let same : part ≡ also = cc in
    let more = one_clearing h k (cc) (rw same refl) in
    rw (same, more) refl
one_clearing (spec.kept part other h) (spec.lost head body comments is none stays end k) e f =
    let same : part ≡ head = cc in absurd (other (rw same is))
one_clearing (spec.lost head body comments is none stays end h) (spec.kept part other k) e f =
    let same : part ≡ head = cc in absurd (other (rw same is))
one_clearing (spec.lost {goes_on = goes_on} {next = next} {end = end} head body comments is none stays end_is h)
    (spec.lost {next = left} {end = other_end} other also others so none_too stays_too end_too k) e f =
    let heads : head ≡ other = cc in
    let tails : body ++ next ≡ also ++ left = cc in
    let (bodies, nexts) = bodies_same body also next left none none_too (next_begins stays) (next_begins stays_too) tails in
    let left_same = stays_same stays stays_too bodies nexts in
    let ends : end ≡ other_end = last_end_same end_is end_too (rw (heads, bodies) refl) in
    let more = one_clearing h k nexts (rw (f, ends) refl) in
    rw (f, ends, left_same, more) refl
one_clearing h k e f = cc
