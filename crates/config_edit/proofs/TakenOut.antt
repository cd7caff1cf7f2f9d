-- The parts of a text out of which entries of a key are taken.
use Rattle.std.proofs.Common.{◌≡◌, ◌≢◌, ℕ, ◌+◌, ◌<◌, Bool, true, false, not, ◌||◌, List, [], ◌∷◌, ◌++◌}
use Rattle.std.proofs.Common.{Option, Some, None}
use Rattle.std.proofs.Common.{length, IsTrue, ◌↔◌, refl, sym, ap, ◌∙◌, subst, append_assoc, append-nil, arith}
use Rattle.std.proofs.Common.{inl, inr, ◌⊎◌}
use Rattle.std.proofs.lemmas.List.Folds.{list_all-append}
use Rattle.std.proofs.lemmas.Bool.{true≢false, and_parts, false_from_ne_true, not-false, or_parts}
use Rattle.std.specs.List.{list_all}
use Rattle.config_edit.specs.declared.removal.Group.{Group}
use Rattle.config_edit.specs.declared.piece.Held.{Held}
use Rattle.config_edit.specs.declared.piece.Held.TheVariants as held
use Rattle.config_edit.specs.declared.piece.Piece.{Piece}
use Rattle.config_file.specs.Bytes.{is_blank, is_comment_sign}
use Rattle.config_file.specs.Runs.{Run}
use Rattle.config_file.specs.Header.{Section}
use Rattle.config_file.specs.Key.{Key}
use Rattle.config_edit.specs.Cut as cut
use Rattle.config_edit.specs.Cut.{Part, IsTail, IsComment, absent, present, HasComment, Cuts, EachBecomes}
use Rattle.config_edit.specs.Cut.{part_bytes, parts_bytes}
use Rattle.config_edit.specs.Cut.{ends_line, ends_in_header, entries_in, section_from, section_behind}
use Rattle.config_edit.specs.Cut.{is_header, HaveNoHeader}
use Rattle.config_edit.specs.Edit as edit
use Rattle.config_edit.specs.Edit.{IsPlaceOf, IsEndOfLine}
use Rattle.config_edit.specs.Unset as spec
use Rattle.config_edit.specs.Unset.{Goes, LeavesEnd, Leaves, IsBlankPart, EndsInComment, IsBelowComment}
use Rattle.config_edit.specs.Unset.{LosesOf, KeepsNone}
use Rattle.config_edit.specs.Unset.{LeavesEmptied, SectionBecomes, TakesOut}
use Rattle.config_edit.specs.Reading as read
use Rattle.config_edit.specs.Reading.{IsPiece, IsMade, EndsInCommentHeld, IsEntryHeld, IsBegun, IsPushed}
use Rattle.config_edit.specs.Reading.{IsFinished}
use Rattle.config_edit.specs.Reading.{IsSection, AreTaken, TakesParts, is_blank_held, contents_in, holds_header}
use Rattle.config_file.proofs.LineEnds.{not_none}
use Rattle.config_edit.proofs.Pieces.{comment_behind}
use Rattle.config_edit.specs.Cut.{AreBlank, IsPart}
use Rattle.config_edit.proofs.Cuts.{IsPartOf, part_of, has_before, tail_comment, cut_more, section_more}
use Rattle.config_edit.proofs.Cuts.{no_part, same_last}
use Rattle.config_edit.proofs.Cuts.{one_each}
use Rattle.config_edit.proofs.CutLoops.{bytes_more, entries_join, has_header, last_is_header, no_header_more}
use Rattle.config_edit.proofs.OnePart.{end_once, parts_once}
use Rattle.config_edit.specs.Unset.{IsTakenOut}

-- ---- parts one after the other

pub none_part : {X : Type 0} (front back : List X) (part : X) → [] ≡ front ++ part ∷ back → ⊥
none_part [] back part e = cc
none_part (first ∷ front) back part e = cc

pub split_last : {X : Type 0} (body front back : List X) (last part : X)
    → body ++ last ∷ [] ≡ front ++ part ∷ back
    → ((front ≡ body) × (part ≡ last)) ⊎ ((left : List X) × (body ≡ front ++ part ∷ left))
split_last [] [] back last part e = inl (refl, cc)
split_last [] (x ∷ front) back last part e =
    let none : [] ≡ front ++ part ∷ back = cc in absurd (none_part front back part none)
split_last (x ∷ body) [] back last part e = let same : x ≡ part = cc in inr (body, rw same refl)
split_last (x ∷ body) (y ∷ front) back last part e =
    let heads : x ≡ y = cc in
    let tails : body ++ last ∷ [] ≡ front ++ part ∷ back = cc in
    elim (split_last body front back last part tails) [
      | inl same ↦ inl (rw (heads, same.0) refl, same.1)
      | inr (left, is) ↦ inr (left, rw (heads, is) refl)
    ]

no_section : (before : Option Section) (parts : List Part) → HaveNoHeader parts
    → section_from before parts ≡ before
no_section before [] all = refl
no_section before (cut.header blanks section inner ∷ parts) all = absurd (true≢false (sym all))
no_section before (cut.entry blanks key between value tail l ∷ parts) all = no_section before parts all
no_section before (cut.line tail l ∷ parts) all = no_section before parts all

header_stays : (key : Key) (places : Option (List ℕ)) (before : List Part) (part : Part) → is_header part ≡ true
    → ¬ (Goes key places before part)
header_stays key places before (cut.header blanks section inner) is = λ goes. goes.0
header_stays key places before (cut.entry blanks name between value tail l) is = absurd (true≢false (sym is))
header_stays key places before (cut.line tail l) is = absurd (true≢false (sym is))

-- before any header, no entry is of a key
first_stay : (key : Key) (places : Option (List ℕ)) (before : List Part) (part : Part) → HaveNoHeader before
    → ¬ (Goes key places before part)
first_stay key places before (cut.header blanks section inner) all = λ goes. goes.0
first_stay key places before (cut.entry blanks name between value tail l) all = λ goes.
    subst (λ s. edit.IsIn key s) (no_section None before all) goes.0.0
first_stay key places before (cut.line tail l) all = λ goes. goes.0

-- ---- comments

below_last : {all : List Part} → IsBelowComment all → (parts : List Part) (part : Part)
    → all ≡ parts ++ part ∷ []
    → EndsInComment part ⊎ (IsBlankPart part × IsBelowComment parts)
below_last (spec.comment before other is) parts part e =
    let (befores, same) = same_last before parts other part e in inl (rw same at is)
below_last (spec.blank before other below is) parts part e =
    let (befores, same) = same_last before parts other part e in inr (rw same at is, rw befores at below)

pub nothing_below : {all : List Part} → IsBelowComment all → [] ≡ all → ⊥
nothing_below (spec.comment before part is) e = no_part before part e
nothing_below (spec.blank before part below is) e = no_part before part e

below_more : (parts : List Part) (part : Part)
    → (EndsInComment part ⊎ (IsBlankPart part × IsBelowComment parts)) ↔ IsBelowComment (parts ++ part ∷ [])
below_more parts part = (
  λ either. elim either [
    | inl ends ↦ spec.comment parts part ends
    | inr (is, below) ↦ spec.blank parts part below is
  ],
  λ below. below_last below parts part refl,
)

-- ---- the part that a piece is

record Fits (key : Key) (places : Option (List ℕ)) (before : List Part) (section : Option Section) (index : ℕ)
    (h : Held)
    (is_line : Bool) (part : Part) : Type 0 where
  goes : Goes key places before part ↔ (IsEntryHeld key section h × IsPlaceOf places index)
  blank : IsBlankPart part ↔ (is_blank_held h ≡ true)
  ends : EndsInComment part ↔ EndsInCommentHeld h
  section_next : section_behind section part ≡ read.section_after h section
  entries : entries_in (part ∷ []) ≡ length (contents_in h section)
  header_is : is_header part ≡ holds_header h
  line : is_header part ≡ false → ends_line part ≡ is_line

fits : (key : Key) (places : Option (List ℕ)) (before : List Part) (section : Option Section) (index : ℕ)
    (h : Held)
    (blanks bytes rest : List ℕ) (is_line : Bool) (part : Part)
    → section ≡ cut.section_after before → index ≡ entries_in before → AreBlank blanks
    → IsMade h blanks bytes rest is_line → IsPart part rest → IsPartOf h blanks bytes rest is_line part
    → Fits key places before section index h is_line part
fits key places before section index
    (held.Header new) blanks bytes rest is_line part section_is index_is all made is (inner, part_is) =
    rw part_is (record {
      goes = (λ goes. absurd goes.0, λ held. absurd held.0);
      blank = (λ blank. absurd blank, λ e. absurd (true≢false (sym e)));
      ends = (λ ends. ends, λ ends. ends);
      section_next = refl;
      entries = refl;
      header_is = refl;
      line = λ other. absurd (true≢false other);
    })
fits key places before section index
    (held.Entry parts) blanks bytes rest is_line part section_is index_is all made is (
      between,
      tail,
      part_is,
      left,
    ) =
    let t = (rw part_is at is).3 in
    rw part_is (record {
      goes = rw (section_is, index_is) (λ goes. goes, λ goes. goes);
      blank = (λ blank. absurd blank, λ e. absurd (true≢false (sym e)));
      ends = (λ has. rw left (has_before rest has), λ has. (tail_comment t).0 (rw left at has));
      section_next = refl;
      entries = refl;
      header_is = refl;
      line = λ other. refl;
    })
fits key places before section index held.Nothing blanks bytes rest is_line part section_is index_is all (
  t,
  never,
) is part_is =
    rw part_is (record {
      goes = (λ goes. absurd goes.0, λ held. absurd held.0);
      blank = (λ blank. refl, λ e. never);
      ends = (λ has. never has, λ never. absurd never);
      section_next = refl;
      entries = refl;
      header_is = refl;
      line = λ other. refl;
    })
fits key places before section index held.Comment blanks bytes rest is_line part section_is index_is all (
  t,
  has,
) is part_is =
    rw part_is (record {
      goes = (λ goes. absurd goes.0, λ held. absurd held.0);
      blank = (λ blank. absurd (blank has), λ e. absurd (true≢false (sym e)));
      ends = (λ ends. tt, λ ends. has);
      section_next = refl;
      entries = refl;
      header_is = refl;
      line = λ other. refl;
    })

-- ---- a section on its way

pub loses_more : (key : Key) (places : Option (List ℕ)) (before body : List Part) (part : Part)
    → (LosesOf key places before body ⊎ Goes key places (before ++ body) part)
    ↔ LosesOf key places before (body ++ part ∷ [])
loses_more key places before body part = (
  λ either. elim either [
    | inl (front, back, other, e, goes) ↦ (
      front,
      back ++ part ∷ [],
      other,
      ap (λ b. b ++ part ∷ []) e ∙ append_assoc front (other ∷ back) (part ∷ []),
      goes,
    )
    | inr goes ↦ (body, [], part, refl, goes)
  ],
  λ (front, back, other, e, goes). elim (split_last body front back part other e) [
    | inl same ↦ inr (rw (same.0, same.1) at goes)
    | inr (left, is) ↦ inl (front, left, other, is, goes)
  ],
)

pub keeps_more : (key : Key) (places : Option (List ℕ)) (before body : List Part) (part : Part)
    → (KeepsNone key places before body × (Goes key places (before ++ body) part ⊎ IsBlankPart part))
    ↔ KeepsNone key places before (body ++ part ∷ [])
keeps_more key places before body part = (
  λ (all, last). λ front back other e. elim (split_last body front back part other e) [
    | inl same ↦ rw (same.0, same.1) last
    | inr (left, is) ↦ all front left other is
  ],
  λ all. (
    λ front back other e. all front (back ++ part ∷ []) other
        (ap (λ b. b ++ part ∷ []) e ∙ append_assoc front (other ∷ back) (part ∷ [])),
    all body [] part refl,
  ),
)

ends_same : {a b : Bool} {xs ys : List ℕ} {l m : Bool} → b ≡ a → ys ≡ xs → m ≡ l → (put : List ℕ)
    → LeavesEnd a xs l put
    → LeavesEnd b ys m put
ends_same e f h put is = rw (e, f, h) is

-- a header begins a section
module _ {key : Key} {places : Option (List ℕ)} {g now : Group} {piece : Piece} {is_below : Bool} where
  begun : (done : List Part) (top : Part) → IsBegun g now piece is_below → IsTrue is_below ↔ IsBelowComment done
      → g.in_head ≡ ends_in_header done → is_header top ≡ true → part_bytes top ≡ piece.bytes.now
      → IsSection key places done top [] now
  begun done top b below in_head is bytes_are =
      let whole : now.head.items ++ now.body.items ≡ part_bytes top = rw (b.head, b.body, append-nil, bytes_are) refl in
      let none : now.line_end.now ++ now.body.items ≡ [] = rw (b.line_end, b.body) refl in
      record {
        is_top = is;
        no_header = refl;
        in_line = b.in_line ∙ in_head;
        alone = λ on. (refl, b.body, b.line_end);
        not_alone = λ off. absurd (true≢false (sym b.in_head ∙ off));
        stays = rw whole (cut.next {before = []} top (part_bytes top) cut.none
            (inr (header_stays key places (done ++ []) top is, refl)));
        goes = rw none (cut.next {before = []} top [] cut.none refl);
        loses = (
          λ lost. absurd (true≢false (sym lost ∙ b.has_lost)),
          λ (front, back, other, e, goes). absurd (none_part front back other e),
        );
        keeps_none = (
          λ not_kept. (
            λ front back other e. absurd (none_part front back other e),
            λ is_below. true≢false (sym (below.1 is_below) ∙ sym b.kept ∙ not_kept),
          ),
          λ (all, apart). b.kept ∙ false_from_ne_true is_below (λ is_below. apart (below.0 is_below)),
        );
      }

pushed_head : {g now : Group} {piece : Piece} {put : List ℕ} → IsPushed g now piece put → now.in_head ≡ false
pushed_head (read.to_head on off line head_is body_is end_is) = off
pushed_head (read.to_body on off line head_is body_is end_is) = off

pushed_line : {g now : Group} {piece : Piece} {put : List ℕ} → IsPushed g now piece put
    → now.in_line ≡ g.in_line
pushed_line (read.to_head on off line head_is body_is end_is) = line
pushed_line (read.to_body on off line head_is body_is end_is) = line

pushed_bytes : {g now : Group} {piece : Piece} {put : List ℕ} → IsPushed g now piece put
    → (g.in_head ≡ true → g.body.items ≡ [])
    → now.head.items ++ now.body.items ≡ (g.head.items ++ g.body.items) ++ put
pushed_bytes (read.to_head on off line head_is body_is end_is) alone =
    rw (head_is, body_is, alone on) (simp append-nil)
pushed_bytes {g = g} {put = put} (read.to_body on off line head_is body_is end_is) alone =
    rw (head_is, body_is) (sym (append_assoc g.head.items g.body.items put))

-- one part more behind the header
module _ {key : Key} {places : Option (List ℕ)} {g now : Group} {piece : Piece} {done body : List Part}
    {top : Part}
    {put : List ℕ} (part : Part) (s : IsSection key places done top body g) (pushed : IsPushed g now piece put)
    (bytes_are : part_bytes part ≡ piece.bytes.now) (ends : ends_line part ≡ piece.is_line)
    (leaves : Leaves key places (done ++ top ∷ body) part put) where
  behind : (done ++ top ∷ []) ++ body ≡ done ++ top ∷ body
  behind = append_assoc done (top ∷ []) body

  goes_behind : (body : List Part) → body ≢ [] → Leaves key places (done ++ top ∷ body) part put
      → LeavesEmptied key places done (top ∷ body) part put
  goes_behind [] some may = absurd (some refl)
  goes_behind (first ∷ body) some may = may

  goes_first : (end : List ℕ) (body : List Part) → body ≡ []
      → LeavesEnd (ends_in_header done) (part_bytes part) (ends_line part) end
      → LeavesEmptied key places done (top ∷ body) part end
  goes_first end [] none may = may
  goes_first end (first ∷ body) none may = absurd (none_part [] body first (sym none))

  go_more : EachBecomes (LeavesEmptied key places done) (top ∷ (body ++ part ∷ []))
      (now.line_end.now ++ now.body.items)
  go_more = elim pushed [
    | read.to_head on off line head_is body_is end_is ↦
        let (none, no_body, no_end) = s.alone on in
        let may = ends_same (sym s.in_line) bytes_are ends now.line_end.now end_is in
        let e : now.line_end.now ++ now.body.items ≡ (g.line_end.now ++ g.body.items) ++ now.line_end.now =
        rw (body_is, no_body, no_end) (simp append-nil) in
        rw e (cut.next {before = top ∷ body} part now.line_end.now s.goes
        (goes_first now.line_end.now body none may))
    | read.to_body on off line head_is body_is end_is ↦
        let e : now.line_end.now ++ now.body.items ≡ (g.line_end.now ++ g.body.items) ++ put =
        rw (end_is, body_is) (sym (append_assoc g.line_end.now g.body.items put)) in
        rw e (cut.next {before = top ∷ body} part put s.goes (goes_behind body (s.not_alone on) leaves))
  ]

  section_goes_on : is_header part ≡ false
      → (now.has_lost ≡ true) ↔ ((g.has_lost ≡ true) ⊎ Goes key places (done ++ top ∷ body) part)
      → (now.is_kept ≡ false) ↔ ((g.is_kept ≡ false)
      × (Goes key places (done ++ top ∷ body) part ⊎ IsBlankPart part))
      → IsSection key places done top (body ++ part ∷ []) now
  section_goes_on other lost kept =
      let before = done ++ top ∷ [] in
      let more = loses_more key places before body part in
      let none = keeps_more key places before body part in
      record {
        is_top = s.is_top;
        no_header = no_header_more body part s.no_header other;
        in_line = pushed_line pushed ∙ s.in_line;
        alone = λ on. absurd (true≢false (sym on ∙ pushed_head pushed));
        not_alone = λ off e. no_part body part (sym e);
        stays = rw (pushed_bytes pushed (λ on. (s.alone on).1))
            (cut.next {before = top ∷ body} part put s.stays leaves);
        goes = go_more;
        loses = (
          λ is. more.0 (elim (lost.0 is) [
            | inl was ↦ inl (s.loses.0 was)
            | inr goes ↦ inr (rw behind goes)
          ]),
          λ is. lost.1 (elim (more.1 is) [
            | inl was ↦ inl (s.loses.1 was)
            | inr goes ↦ inr (rw behind at goes)
          ]),
        );
        keeps_none = (
          λ is.
              let (was, last) = kept.0 is in
              let (all, apart) = s.keeps_none.0 was in
              (none.0 (all, rw behind last), apart),
          λ (all, apart).
              let (before_all, last) = none.1 all in
              kept.1 (s.keeps_none.1 (before_all, apart), rw behind at last),
        );
      }

-- a section that is finished
finishes : {key : Key} {places : Option (List ℕ)} {parts : List Part} {new put : List ℕ} {g : Group}
    → AreTaken key places parts new g → IsFinished g put → TakesOut key places parts (new ++ put)
finishes (inl (all, none, bytes_are, kept, off)) (read.whole either) = rw (none, bytes_are) (spec.front all)
finishes (inl (all, none, bytes_are, kept, off)) (read.without_head not_kept lost) = absurd (kept not_kept)
finishes (inr (done, body, top, is, takes, s)) (read.whole (inl kept)) =
    rw is (spec.section top takes s.is_top s.no_header
    (inr (λ (loses, all, apart). true≢false (sym kept ∙ s.keeps_none.1 (all, apart)), s.stays)))
finishes (inr (done, body, top, is, takes, s)) (read.whole (inr not_lost)) =
    rw is (spec.section top takes s.is_top s.no_header
    (inr (λ (loses, all, apart). true≢false (sym (s.loses.1 loses) ∙ not_lost), s.stays)))
finishes (inr (done, body, top, is, takes, s)) (read.without_head not_kept lost) =
    let (all, apart) = s.keeps_none.0 not_kept in
    rw is (spec.section top takes s.is_top s.no_header (inl ((s.loses.0 lost, all, apart), s.goes)))

-- before the first piece
pub taken_begins : (key : Key) (places : Option (List ℕ)) (text : List ℕ) (g : Group) → g.head.items ≡ []
    → g.body.items ≡ []
    → g.in_head ≡ false → g.is_kept ≡ true → TakesParts key places text text [] None g 0 false
taken_begins key places text g head body in_head kept =
    record {
      parts = [];
      cuts = λ later more. more;
      section_is = refl;
      index_is = refl;
      below_is = (λ e. absurd (true≢false (sym e)), λ below. absurd (nothing_below below refl));
      in_head = in_head;
      taken = inl (refl, refl, rw (head, body) refl, λ e. true≢false (sym kept ∙ e), in_head);
    }

-- one piece more
module _ {key : Key} {places : Option (List ℕ)} {text rest new : List ℕ} {section : Option Section}
    {g : Group} {index : ℕ}
    {is_below : Bool} (p : TakesParts key places text rest new section g index is_below) {piece : Piece}
    (is : IsPiece rest piece) (shorter : length piece.rest.now < length rest) where
  some_bytes : piece.bytes.now ≢ []
  some_bytes none =
      let same : rest ≡ piece.rest.now = is.joined ∙ rw none refl in
      let count : length rest ≡ length piece.rest.now = ap (λ r. length r) same in
      absurd (omega arith)

  next_part : (part : Part) × (part_bytes part ≡ piece.bytes.now) × IsPart part piece.rest.now
      × Fits key places p.parts section index piece.held piece.is_line part
  next_part =
      let (part, bytes_are, is_part, of) = part_of piece some_bytes is in (
        part,
        bytes_are,
        is_part,
        fits key places p.parts section index piece.held piece.blanks.now piece.bytes.now
            piece.rest.now piece.is_line part p.section_is p.index_is is.blank is.made is_part of,
      )

  goes_on : {later_new : List ℕ} {next : ℕ} {now : Group} {still_below : Bool} (part : Part)
      → part_bytes part ≡ piece.bytes.now → IsPart part piece.rest.now
      → Fits key places p.parts section index piece.held piece.is_line part
      → next ≡ index + length (contents_in piece.held section)
      → IsTrue still_below ↔ (EndsInCommentHeld piece.held
      ⊎ ((is_blank_held piece.held ≡ true) × (is_below ≡ true)))
      → now.in_head ≡ is_header part → AreTaken key places (p.parts ++ part ∷ []) later_new now
      → TakesParts key places text piece.rest.now later_new
      (read.section_after piece.held section) now next still_below
  goes_on part bytes_are is_part f next_is below in_head taken =
      let rest_is : part_bytes part ++ piece.rest.now ≡ rest = rw bytes_are (sym is.joined) in
      let more = below_more p.parts part in
      record {
        parts = p.parts ++ part ∷ [];
        cuts = cut_more p.parts part piece.rest.now (λ later c.
            p.cuts later (subst (λ t. Cuts t later) rest_is c)) is_part;
        section_is = sym f.section_next ∙ ap (λ s. section_behind s part) p.section_is
            ∙ sym (section_more None p.parts part);
        index_is = next_is ∙ rw (p.index_is, ← f.entries) (sym (entries_join p.parts (part ∷ [])));
        below_is = (
          λ e. more.0 (elim (below.0 e) [
            | inl ends ↦ inl (f.ends.1 ends)
            | inr (blank, was) ↦ inr (f.blank.1 blank, p.below_is.0 was)
          ]),
          λ b. below.1 (elim (more.1 b) [
            | inl ends ↦ inl (f.ends.0 ends)
            | inr (blank, was) ↦ inr (f.blank.0 blank, p.below_is.1 was)
          ]),
        );
        in_head = in_head ∙ sym (last_is_header p.parts part);
        taken = taken;
      }

  pub taken_header : {put : List ℕ} {now : Group} {still_below : Bool} → holds_header piece.held ≡ true
      → IsFinished g put → IsBegun g now piece is_below
      → IsTrue still_below ↔ (EndsInCommentHeld piece.held
      ⊎ ((is_blank_held piece.held ≡ true) × (is_below ≡ true)))
      → index ≡ index + length (contents_in piece.held section)
      → TakesParts key places text piece.rest.now (new ++ put)
      (read.section_after piece.held section) now index still_below
  taken_header header done b below next_is =
      let (part, bytes_are, is_part, f) = next_part in
      let is_top = f.header_is ∙ header in
      goes_on part bytes_are is_part f next_is below (b.in_head ∙ sym is_top)
      (inr (
        p.parts,
        [],
        part,
        refl,
        finishes p.taken done,
        begun p.parts part b p.below_is p.in_head is_top bytes_are,
      ))

  -- what is left of the part, and what it does to the section
  taken_more : {put : List ℕ} {now : Group} {next : ℕ} {still_below : Bool} (part : Part)
      → part_bytes part ≡ piece.bytes.now → IsPart part piece.rest.now
      → Fits key places p.parts section index piece.held piece.is_line part
      → holds_header piece.held ≡ false → IsPushed g now piece put → Leaves key places p.parts part put
      → next ≡ index + length (contents_in piece.held section)
      → IsTrue still_below ↔ (EndsInCommentHeld piece.held
      ⊎ ((is_blank_held piece.held ≡ true) × (is_below ≡ true)))
      → (now.has_lost ≡ true) ↔ ((g.has_lost ≡ true) ⊎ Goes key places p.parts part)
      → (now.is_kept ≡ false) ↔ ((g.is_kept ≡ false) × (Goes key places p.parts part ⊎ IsBlankPart part))
      → TakesParts key places text piece.rest.now new
      (read.section_after piece.held section) now next still_below
  taken_more {put = put} {now = now} part bytes_are is_part f other pushed leaves next_is below lost kept =
      let no_header = f.header_is ∙ other in
      let in_head = pushed_head pushed ∙ sym no_header in
      goes_on part bytes_are is_part f next_is below in_head (elim p.taken [
        | inl (all, none, bytes, was_kept, off) ↦
            let stays = first_stay key places p.parts part all in
            let put_is : put ≡ part_bytes part = elim leaves [
              | inl gone ↦ absurd (stays gone.0)
              | inr here ↦ here.1
            ] in
            inl (
              no_header_more p.parts part all no_header,
              none,
              pushed_bytes pushed (λ on. absurd (true≢false (sym on ∙ off)))
                  ∙ rw (bytes, put_is) (sym (bytes_more p.parts part)),
              λ e. was_kept (kept.0 e).0,
              pushed_head pushed,
            )
        | inr (done, body, top, parts_are, takes, s) ↦
            let leaves_here : Leaves key places (done ++ top ∷ body) part put = rw parts_are at leaves in
            inr (
              done,
              body ++ part ∷ [],
              top,
              rw parts_are (append_assoc done (top ∷ body) (part ∷ [])),
              takes,
              section_goes_on part s pushed bytes_are (f.line no_header) leaves_here no_header
                  (rw parts_are at lost) (rw parts_are at kept),
            )
      ])

  -- a piece that stays
  pub taken_keeps : {now : Group} {next : ℕ} {still_below : Bool} → holds_header piece.held ≡ false
      → ¬ (IsEntryHeld key section piece.held × IsPlaceOf places index)
      → IsPushed g now piece piece.bytes.now → next ≡ index + length (contents_in piece.held section)
      → IsTrue still_below ↔ (EndsInCommentHeld piece.held
      ⊎ ((is_blank_held piece.held ≡ true) × (is_below ≡ true)))
      → now.has_lost ≡ g.has_lost → now.is_kept ≡ (g.is_kept || not (is_blank_held piece.held))
      → TakesParts key places text piece.rest.now new
      (read.section_after piece.held section) now next still_below
  taken_keeps {now = now} other stays pushed next_is below lost_is kept_is =
      let (part, bytes_are, is_part, f) = next_part in
      let here : ¬ (Goes key places p.parts part) = λ goes. stays (f.goes.0 goes) in
      taken_more part bytes_are is_part f other pushed (inr (here, sym bytes_are)) next_is below (
        λ lost. inl (sym lost_is ∙ lost),
        λ either. elim either [
          | inl was ↦ lost_is ∙ was
          | inr goes ↦ absurd (here goes)
        ],
      ) (
        λ not_kept.
            let (was, solid) = or_parts g.is_kept (not (is_blank_held piece.held)) (sym kept_is ∙ not_kept) in
            (was, inr (f.blank.1 (not-false (is_blank_held piece.held) solid))),
        λ (was, either). elim either [
          | inl goes ↦ absurd (here goes)
          | inr blank ↦ kept_is ∙ rw (was, f.blank.0 blank) refl
        ],
      )

  -- an entry that goes
  pub taken_loses : {now : Group} {next : ℕ} {put : List ℕ} {still_below : Bool}
      → holds_header piece.held ≡ false
      → IsEntryHeld key section piece.held × IsPlaceOf places index
      → LeavesEnd g.in_head piece.bytes.now piece.is_line put → IsPushed g now piece put
      → next ≡ index + length (contents_in piece.held section)
      → IsTrue still_below ↔ (EndsInCommentHeld piece.held
      ⊎ ((is_blank_held piece.held ≡ true) × (is_below ≡ true)))
      → now.has_lost ≡ true → now.is_kept ≡ g.is_kept
      → TakesParts key places text piece.rest.now new
      (read.section_after piece.held section) now next still_below
  taken_loses {now = now} {put = put} other held end pushed next_is below lost_is kept_is =
      let (part, bytes_are, is_part, f) = next_part in
      let goes : Goes key places p.parts part = f.goes.1 held in
      let no_header = f.header_is ∙ other in
      let left = ends_same (sym p.in_head) bytes_are (f.line no_header) put end in
      taken_more part bytes_are is_part f other pushed (inl (goes, left)) next_is below
      (λ lost. inr goes, λ either. lost_is)
      (λ not_kept. (sym kept_is ∙ not_kept, inl goes), λ (was, either). kept_is ∙ was)

pub nothing_header : {h : Held} → (h ≡ held.Nothing) ⊎ (h ≡ held.Comment) → holds_header h ≡ false
nothing_header (inl e) = rw e refl
nothing_header (inr e) = rw e refl

-- at the end of the text
pub taken_ends : {key : Key} {places : Option (List ℕ)} {text rest new put : List ℕ}
    {section : Option Section} {g : Group}
    {index : ℕ} {is_below : Bool} → (p : TakesParts key places text rest new section g index is_below)
    → rest ≡ []
    → IsFinished g put → Cuts text p.parts × TakesOut key places p.parts (new ++ put)
taken_ends p none done =
    (simp append-nil at (p.cuts [] (rw none cut.ends)), finishes p.taken done)

-- ---- what is taken out is determined

module _ (key : Key) (places : Option (List ℕ)) where
  leaves_once : (before : List Part) (part : Part) (a b : List ℕ) → Leaves key places before part a
      → Leaves key places before part b → a ≡ b
  leaves_once before part a b (inl (goes, end)) (inl (also, other)) =
      end_once (ends_in_header before) (part_bytes part) (ends_line part) end other
  leaves_once before part a b (inl (goes, end)) (inr (never, is)) = absurd (never goes)
  leaves_once before part a b (inr (never, is)) (inl (goes, end)) = absurd (never goes)
  leaves_once before part a b (inr (never, is)) (inr (nor, so)) = is ∙ sym so

  emptied_once : (done before : List Part) (part : Part) (a b : List ℕ)
      → LeavesEmptied key places done before part a → LeavesEmptied key places done before part b → a ≡ b
  emptied_once done [] part a b is so = is ∙ sym so
  emptied_once done (top ∷ []) part a b is so =
      end_once (ends_in_header done) (part_bytes part) (ends_line part) is so
  emptied_once done (top ∷ first ∷ front) part a b is so =
      leaves_once (done ++ top ∷ first ∷ front) part a b is so

  section_once : (before body : List Part) (top : Part) (a b : List ℕ)
      → SectionBecomes key places before top body a → SectionBecomes key places before top body b → a ≡ b
  section_once before body top a b (inl (empty, is)) (inl (also, so)) =
      one_each (emptied_once before) is so refl
  section_once before body top a b (inl (empty, is)) (inr (never, so)) = absurd (never empty)
  section_once before body top a b (inr (never, is)) (inl (empty, so)) = absurd (never empty)
  section_once before body top a b (inr (never, is)) (inr (nor, so)) =
      one_each (λ front part put other. leaves_once (before ++ front) part put other) is so refl

-- the last header of a text is one
last_header : (before also body more : List Part) (top other : Part) → is_header top ≡ true
    → is_header other ≡ true
    → HaveNoHeader body → HaveNoHeader more → before ++ top ∷ body ≡ also ++ other ∷ more
    → (before ≡ also) × (top ≡ other) × (body ≡ more)
last_header [] [] body more top other is so none nor e = (refl, cc, cc)
last_header [] (y ∷ also) body more top other is so none nor e =
    let tails : body ≡ also ++ other ∷ more = cc in absurd (has_header also more other (rw tails at none) so)
last_header (x ∷ before) [] body more top other is so none nor e =
    let tails : before ++ top ∷ body ≡ more = cc in absurd (has_header before body top (rw (← tails) at nor) is)
last_header (x ∷ before) (y ∷ also) body more top other is so none nor e =
    let heads : x ≡ y = cc in
    let tails : before ++ top ∷ body ≡ also ++ other ∷ more = cc in
    let (befores, tops, bodies) = last_header before also body more top other is so none nor tails in
    (rw (heads, befores) refl, tops, bodies)

taken_once : {key : Key} {places : Option (List ℕ)} {parts others : List Part} {a b : List ℕ}
    → TakesOut key places parts a → TakesOut key places others b → parts ≡ others → a ≡ b
taken_once (spec.front all) (spec.front also) e = ap parts_bytes e
taken_once (spec.front all) (spec.section {before = before} {body = body} top takes is none becomes) e =
    absurd (has_header before body top (rw e at all) is)
taken_once (spec.section {before = before} {body = body} top takes is none becomes) (spec.front all) e =
    absurd (has_header before body top (rw (← e) at all) is)
taken_once {key = key} {places = places}
    (spec.section {before = before} {body = body} {put = put} top takes is none becomes)
    (spec.section {before = also} {body = more} {put = other_put} other takes_too so nor becomes_too) e =
    let (befores, tops, bodies) = last_header before also body more top other is so none nor e in
    let news = taken_once takes takes_too befores in
    let puts = section_once key places before body top put other_put becomes (rw (← befores, ← tops, ← bodies) at becomes_too) in
    rw (news, puts) refl

pub taken_out_once : {key other : Key} {places : Option (List ℕ)} {old a b : List ℕ} → key ≡ other
    → IsTakenOut key places old a → IsTakenOut other places old b → a ≡ b
taken_out_once {key = key} {places = places} same (mark, parts, bytes, has, takes, is) (
  other,
  also,
  more,
  has_too,
  takes_too,
  so,
) =
    let (marks, all) = parts_once has has_too in
    let taken = taken_once takes (subst (λ k. TakesOut k places also more) (sym same) takes_too) all in
    is ∙ rw (marks, taken) (sym so)
