-- Texts with one entry more.
use Rattle.std.proofs.Common.{◌≡◌, ℕ, ◌<◌, Bool, true, false, List, [], ◌∷◌, ◌++◌, Option, Some, None, IsTrue}
use Rattle.std.proofs.Common.{IfSome, MatchOption, ◌↔◌, length, map, refl, sym, ap, ◌∙◌, subst, append_assoc}
use Rattle.std.proofs.Common.{append-nil, inl, inr, ◌⊎◌, ◌&&◌, true≢false, arith}
use Rattle.std.specs.List.{list_all}
use Rattle.std.specs.Char.{to_ascii_lowercase, is_ascii_alphabetic}
use Rattle.std.proofs.lemmas.List.{append_cancel_right}
use Rattle.std.proofs.lemmas.Bool.{and_parts, cases_Bool, false_from_ne_true}
use Rattle.config_file.proofs.OneRun.{run_same}
use Rattle.config_edit.specs.declared.setting.Insertion.{Insertion}
use Rattle.config_edit.specs.declared.setting.Places.{Places}
use Rattle.config_edit.specs.declared.write.End.{End}
use Rattle.config_edit.specs.declared.write.End.TheVariants as end
use Rattle.config_edit.specs.declared.piece.Held.{Held}
use Rattle.config_edit.specs.declared.piece.Held.TheVariants as held
use Rattle.config_edit.specs.declared.piece.Piece.{Piece}
use Rattle.config_file.specs.declared.section.Section as code
use Rattle.config_file.specs.Views.{section_of}
use Rattle.config_file.specs.Bytes.{is_key_byte, is_blank, is_comment_sign}
use Rattle.config_file.specs.Header.{Section}
use Rattle.config_file.specs.Value as spells
use Rattle.config_file.specs.Value.{SpellsValue, closed, line_feeds}
use Rattle.config_file.specs.Subsection.{SpellsSubsection}
use Rattle.config_file.specs.File.{TakesKey, valued}
use Rattle.config_file.specs.Listing as listing
use Rattle.config_file.specs.Listing.{IsListedSection}
use Rattle.config_file.specs.Spelling.{SpellsOptional, SpellsSection, spelled_section, git_spelled}
use Rattle.config_file.specs.Key.{Key, is_name, stem, dotted}
use Rattle.config_edit.specs.Edit as spec
use Rattle.config_edit.specs.Edit.{Content, IsIn, WithoutIn, NoneIn, SameEntry, AddsContent}
use Rattle.config_edit.specs.Edit.{HasValue, CanFollow, IsPlace, EndsParts, IsFeedAt, IsOpen}
use Rattle.config_edit.specs.Cut as cut
use Rattle.config_edit.specs.Cut.{absent, Part, Cuts, part_bytes, parts_bytes, ends_line, ends_in_header}
use Rattle.config_edit.specs.Cut.{section_from}
use Rattle.config_edit.specs.Reading.{Holds, Ends, Passed, anywhere, at_end, IsRead, IsMade, IsPiece}
use Rattle.config_edit.specs.Reading.{IsHeaderAt, contents_in, section_after, IsPast, IsEndOf, Closes}
use Rattle.config_edit.specs.Reading as edit
use Rattle.config_edit.specs.Reading.{line_ends, is_item, holds_header, IsPlaceIn, IsPlaceSoFar, Placing}
use Rattle.config_edit.specs.Reading.{ArePlaces}
use Rattle.config_edit.specs.Reading.{EndsNoLine, IsAdded, IsOpenEntry, IsOpenHeld, new_line}
use Rattle.config_edit.specs.Reading.{IsEntry, IsLineEnd}
use Rattle.config_edit.proofs.OnePart.{feed_is_end}
use Rattle.config_file.specs.declared.entry.EntryParts.{EntryParts}
use Rattle.config_file.specs.Views.{value_of}
use Rattle.config_file.specs.File.{TakesEntry}
use Rattle.config_file.proofs.OneValue.{Outcome, value_is}
use Rattle.std.proofs.Common.{Result, Ok, Err, ◌≢◌, ◌+◌}
use Rattle.std.proofs.lemmas.List.{append_cancel_left, length-append}
use Rattle.config_edit.proofs.Cuts.{IsPartOf, no_part, same_last}
use Rattle.config_edit.proofs.CutLoops.{CutMore, cut_begins, cut_step, bytes_join}
use Rattle.config_edit.proofs.Changed.{how_ends, before_rest, before_nothing}
use Rattle.config_file.specs.Reading.Spellings.{is_section, is_spellable}
use Rattle.config_edit.proofs.Pieces.{header_holds, entry_holds, made_passed, blank_no_sign}
use Rattle.config_file.proofs.LineEnds.{not_none}
use Rattle.config_file.proofs.SpelledHeaders.{header_spelled, letter_is_key_byte}
use Rattle.config_file.proofs.Spellings.{git_spelling}
pub use Rattle.config_edit.proofs.Edits.{none_in_piece}
use Rattle.config_edit.proofs.Edits.{without_in_both, holds_nothing, holds_join, holds_end, passed_holds}
use Rattle.config_edit.proofs.Edits.{passed_join, passed_ends, all_passed, some_left, joined_more}
use Rattle.config_edit.proofs.Edits.{header_listed}
use Rattle.config_edit.proofs.Changed.{spells_between}
use Rattle.config_edit.proofs.Replaced.{in_some, other_after, past_begins, past_more, end_holds}
use Rattle.config_edit.proofs.Closed.{return_of, return_blank, same_entries, both_same, piece_closes}

-- no place before any part
nowhere : (key : Key) (front back : List Part) → [] ≡ front ++ back → ¬ (CanFollow key front)
nowhere key [] back e = λ (before, last, joined, in_section, either). no_part before last joined
nowhere key (part ∷ front) back e = cc

-- the place of a new entry
pub placing_begins : (key : Key) (text : List ℕ) → Placing key text text false false None end.Line
placing_begins key text =
    record {
      front = [];
      contents = [];
      section = None;
      past = past_begins text;
      parts = [];
      inside_is = (λ is. true≢false (sym is), λ is. absurd is);
      cuts = cut_begins text;
      after_is = refl;
      are_ends = λ feed. spec.empty;
      closes = λ line_end is. ([], holds_nothing None, tt);
      place = (spec.none, refl, cut_begins text, λ front back e. nowhere key front back e);
    }

closes_more : {text rest front : List ℕ} {contents : List Content} {section : Option Section} {e : End}
    (piece : Piece)
    → IsPast text rest front contents section → IsPiece rest piece
    → length piece.rest.now < length rest → IsEndOf piece e
    → Closes None (front ++ piece.bytes.now) (contents ++ contents_in piece.held section)
    (section_after piece.held section) e
closes_more {rest = rest} {front = front} {contents = contents} {section = section}
    {e = e} piece past is shorter end_is = λ line_end line_is.
    let holds = passed_holds (some_left rest piece.rest.now shorter) past.passed in
    let (now, more, same) = piece_closes piece is end_is section line_end line_is in (
      contents ++ now,
      rw (append_assoc front piece.bytes.now (line_ends e line_end))
          (holds_join front (piece.bytes.now ++ line_ends e line_end) holds more),
      both_same contents contents (contents_in piece.held section) now (same_entries contents) same,
    )

-- the parts behind one that is not the last place
last_here : (key : Key) (parts : List Part) (more left : List Part) → [] ≡ more ++ left
    → CanFollow key (parts ++ more)
    → more ≡ []
last_here key parts [] left e can = refl
last_here key parts (part ∷ more) left e can = cc

cut_last : (later more left : List Part) (part : Part) → later ++ part ∷ [] ≡ more ++ left
    → ((left ≡ []) × (more ≡ later ++ part ∷ [])) ⊎ ((back : List Part) × (later ≡ more ++ back))
cut_last later [] left part e = inr (later, refl)
cut_last [] (x ∷ []) left part e = inl (cc, cc)
cut_last [] (x ∷ y ∷ more) left part e = absurd (cc)
cut_last (z ∷ later) (x ∷ more) left part e = elim (cut_last later more left part (cc)) [
  | inl (none, all) ↦ inl (none, cc)
  | inr (back, is) ↦ inr (back, cc)
]

item_held : (h : Held) (blanks bytes rest : List ℕ) (is_line : Bool) (part : Part)
    → IsPartOf h blanks bytes rest is_line part → spec.is_item part ≡ is_item h
item_held (held.Header section) blanks bytes rest is_line part (inner, is) = rw is refl
item_held (held.Entry parts) blanks bytes rest is_line part (between, tail, is, left) = rw is refl
item_held h blanks bytes rest is_line part is = rw is refl

-- a part behind which no new entry can stand
cannot_follow : {section : Option Section} (key : Key) (before : List Part) (h : Held)
    (blanks bytes rest : List ℕ) (is_line : Bool)
    (part : Part) → IsPartOf h blanks bytes rest is_line part
    → section_from None (before ++ part ∷ []) ≡ section
    → ¬ (IsIn key section) ⊎ ((is_item h ≡ false) × (ends_in_header before ≡ false))
    → ¬ (CanFollow key (before ++ part ∷ []))
cannot_follow key before h blanks bytes rest is_line part of section_is (inl outside) =
    λ (front, last, joined, in_section, either).
    outside (subst (λ s. IsIn key s) section_is in_section)
cannot_follow key before h blanks bytes rest is_line part of section_is (inr (no_item, no_header)) =
    λ (front, last, joined, in_section, either).
    let (fronts, parts) = same_last before front part last joined in
    elim either [
      | inl item ↦ true≢false (sym (rw (← parts) at item) ∙ item_held h blanks bytes rest is_line part of
          ∙ no_item)
      | inr header ↦ true≢false (sym (rw (← fronts) at header) ∙ no_header)
    ]

no_item_after : (h : Held) (section : Option Section) → is_item h ≡ false → section_after h section ≡ section
no_item_after (held.Header new) section none = absurd (true≢false none)
no_item_after h section none = refl

outside : {is_inside : Bool} (key : Key) (section : Option Section) → (IsTrue is_inside ↔ IsIn key section)
    → is_inside ≡ false → ¬ (IsIn key section)
outside key section (there, back) false_is is = true≢false (sym (back is) ∙ false_is)

still_outside : (key : Key) (section : Option Section) (was is_inside : Bool) (h : Held)
    → (IsTrue was ↔ IsIn key section) → was ≡ false → (IsTrue is_inside ↔ IsIn key (section_after h section))
    → (is_inside ≡ false) ⊎ (is_item h ≡ false) → is_inside ≡ false
still_outside key section was is_inside h before false_is after (inl outside_now) = outside_now
still_outside key section was is_inside h before false_is after (inr no_item) =
    false_from_ne_true is_inside
    (λ inside. outside key section before false_is (rw (no_item_after h section no_item) at (after.0 inside)))

-- what ends parts
abbrev lines_of : Outcome → ℕ
lines_of (Ok p) = p.1
lines_of (Err p) = 0

pub one_ending : {raw first second : List ℕ} → SpellsValue raw first spells.outside
    → SpellsValue raw second spells.at_backslash → ⊥
one_ending {raw = raw} closed_is open_is =
    let taken = value_is raw (Ok (raw, line_feeds raw, [])) (closed (sym (append-nil raw)) closed_is tt) in
    let other = value_is raw (Ok (raw, line_feeds raw + 1, [])) (spells.open_end open_is) in
    let counts : line_feeds raw ≡ line_feeds raw + 1 = ap lines_of (taken ∙ sym other) in
    absurd (omega arith)

open_there : {text key at : List ℕ} (parts : EntryParts) (raw : List ℕ) → value_of parts.value ≡ Some raw
    → TakesEntry text key (Some raw) parts.lines at → line_feeds raw ≢ parts.lines
    → (value : List ℕ) × SpellsValue raw value spells.at_backslash
open_there parts raw held takes other = elim (how_ends takes) [
  | before_rest text s lines ↦ absurd (other (sym lines))
  | before_nothing text s lines none ↦ (text, s)
]

open_back : {text name at : List ℕ} (parts : EntryParts) (was : Option (List ℕ))
    (blanks key between tail : List ℕ) (is_line : Bool)
    → value_of parts.value ≡ was → TakesEntry text name was parts.lines at
    → IsOpen (cut.entry blanks key between was tail is_line)
    → IsOpenEntry parts
open_back parts None blanks key between tail is_line held takes is = absurd is
open_back parts (Some raw) blanks key between tail is_line held takes (value, s) = elim (how_ends takes) [
  | before_rest text o lines ↦ absurd (one_ending o s)
  | before_nothing text o lines none ↦ (raw, held, λ same. omega arith)
]

-- how the part of a piece ends
ends_held : (h : Held) (blanks bytes rest : List ℕ) (is_line : Bool) (part : Part)
    → IsMade h blanks bytes rest is_line
    → (holds_header h ≡ true → is_line ≡ false) → IsPartOf h blanks bytes rest is_line part
    → (ends_line part ≡ is_line) × (IsOpen part → IsOpenHeld h) × (IsOpenHeld h → IsOpen part)
ends_held (held.Header section) blanks bytes rest is_line part made not_ended (inner, is) =
    (rw is (sym (not_ended refl)), λ o. rw is at o, λ o. absurd o)
ends_held (held.Entry parts) blanks bytes rest is_line part made not_ended (between, tail, is, left) = (
  rw is refl,
  λ o. open_back parts (value_of parts.value) blanks parts.key.now between tail is_line refl made.takes
      (rw is at o),
  λ (raw, held, other). rw is (subst (λ v. IsOpen (cut.entry blanks parts.key.now between v tail is_line))
      (sym held)
      (open_there parts raw held (rw held at made.takes) other)),
)
ends_held h blanks bytes rest is_line part made not_ended is = (rw is refl, λ o. rw is at o, λ o. absurd o)

part_ends : {text : List ℕ} {f : End} (feed : List ℕ) (before : List Part) (part : Part) (piece : Piece)
    → IsPiece text piece
    → IsEndOf piece f → (holds_header piece.held ≡ true → piece.is_line ≡ false)
    → IsPartOf piece.held piece.blanks.now piece.bytes.now piece.rest.now piece.is_line part
    → EndsParts feed (before ++ part ∷ []) (line_ends f feed)
part_ends feed before part piece is (edit.line on) not_ended of =
    let (ends, there, back) = ends_held piece.held piece.blanks.now piece.bytes.now piece.rest.now piece.is_line part is.made not_ended of in spec.ended before part (ends ∙ on)
part_ends feed before part piece is (edit.unended off other) not_ended of =
    let (ends, there, back) = ends_held piece.held piece.blanks.now piece.bytes.now piece.rest.now piece.is_line part is.made not_ended of in spec.unended before part (ends ∙ off) (λ o. other (there o))
part_ends feed before part piece is (edit.backslashed off opened) not_ended of =
    let (ends, there, back) = ends_held piece.held piece.blanks.now piece.bytes.now piece.rest.now piece.is_line part is.made not_ended of in spec.open_entry before part (ends ∙ off) (back opened)

places_at_end : (key : Key) (text : List ℕ) (contents : List Content) (section : Option Section)
    (is_inside after : Bool) (inside : Option Insertion) (parts : List Part)
    → IsPlaceSoFar key text [] contents section is_inside after inside parts
    → MatchOption inside
    (NoneIn key contents × ((front back : List Part) → parts ≡ front ++ back → ¬ (CanFollow key front)))
    (λ place. (p : IsPlaceIn key text [] contents section place) × (parts ≡ p.parts ++ p.later))
places_at_end key text contents section is_inside after None parts (nothing, false_is, cuts, never) =
    (nothing, never)
places_at_end key text contents section is_inside after (Some place) parts r = r

module _ {key : Key} {text rest : List ℕ} {was before : Bool} {inside : Option Insertion} {e f : End}
    (p : Placing key text rest was before inside e) {piece : Piece} (is : IsPiece rest piece)
    (shorter : length piece.rest.now < length rest) (end_is : IsEndOf piece f)
    (not_ended : holds_header piece.held ≡ true → piece.is_line ≡ false)
    (is_inside after : Bool)
    (inside_is : IsTrue is_inside ↔ IsIn key (section_after piece.held p.section))
    (after_is : after ≡ holds_header piece.held) where
  more_is : length p.contents + length (contents_in piece.held p.section)
      ≡ length (p.contents ++ contents_in piece.held p.section)
  more_is = sym (length-append p.contents (contents_in piece.held p.section))

  placing_more : (now : Option Insertion) → (m : CutMore text p.section (length p.contents) p.parts piece)
      → IsPlaceSoFar key text piece.rest.now (p.contents ++ contents_in piece.held p.section)
      (section_after piece.held p.section) is_inside after now (p.parts ++ m.part ∷ [])
      → Placing key text piece.rest.now is_inside after now f
  placing_more now m place =
      record {
        front = p.front ++ piece.bytes.now;
        contents = p.contents ++ contents_in piece.held p.section;
        section = section_after piece.held p.section;
        parts = p.parts ++ m.part ∷ [];
        past = past_more piece p.past is shorter;
        inside_is = inside_is;
        closes = closes_more piece p.past is shorter end_is;
        cuts = rw more_is at m.cut;
        after_is = after_is ∙ m.in_header;
        are_ends = λ feed. part_ends feed p.parts m.part piece is end_is not_ended m.is_of;
        place = place;
      }

  pub placing_here : is_inside ≡ true → (before ≡ true) ⊎ (is_item piece.held ≡ true)
      → Placing key text piece.rest.now is_inside after (Some (record { rest = piece.rest; end = f })) f
  placing_here inside_now either =
      let past = past_more piece p.past is shorter in
      let m = cut_step piece p.cuts is shorter in
      let there = section_after piece.held p.section in
      let contents = p.contents ++ contents_in piece.held p.section in
      let parts = p.parts ++ m.part ∷ [] in
      let joined = rw more_is at m.cut in
      let can : CanFollow key parts = (
        p.parts,
        m.part,
        refl,
        subst (λ s. IsIn key s) (sym m.cut.section_is) (inside_is.0 inside_now),
        elim either [
          | inl behind ↦ inr (sym p.after_is ∙ behind)
          | inr item ↦ inl (item_held piece.held piece.blanks.now piece.bytes.now piece.rest.now piece.is_line m.part m.is_of ∙ item)
        ],
      ) in
      let place : IsPlaceIn key text piece.rest.now contents there (record { rest = piece.rest; end = f }) =
      record {
        front = p.front ++ piece.bytes.now;
        between = [];
        before = contents;
        after = [];
        there = there;
        parts = parts;
        later = [];
        joined = past.joined;
        cut = refl;
        front_is = append_cancel_right (p.front ++ piece.bytes.now) (parts_bytes parts) piece.rest.now
            (sym past.joined ∙ m.cut.joined);
        cuts = rw (append-nil parts) joined;
        can_follow = can;
        is_last = last_here key parts;
        are_ends = λ feed. part_ends feed p.parts m.part piece is end_is not_ended m.is_of;
        closes = closes_more piece p.past is shorter end_is;
        in_section = inside_is.0 inside_now;
        passed = anywhere (holds_nothing there);
        last = spec.none;
        contents_are = sym (append-nil contents);
      } in
      placing_more (Some (record { rest = piece.rest; end = f })) m (place, sym (append-nil parts))

  place_kept : (now : Option Insertion) (m : CutMore text p.section (length p.contents) p.parts piece)
      → IsPlaceSoFar key text rest p.contents p.section was before now p.parts
      → (is_inside ≡ false) ⊎ ((is_item piece.held ≡ false) × (before ≡ false))
      → IsPlaceSoFar key text piece.rest.now (p.contents ++ contents_in piece.held p.section)
      (section_after piece.held p.section) is_inside after now (p.parts ++ m.part ∷ [])
  place_kept None m (nothing, false_is, cuts, never) either =
      let no_item : (is_inside ≡ false) ⊎ (is_item piece.held ≡ false) = elim either [ inl off ↦ inl off | inr both ↦ inr both.0 ] in
      let off = still_outside key p.section was is_inside piece.held p.inside_is false_is inside_is no_item in
      let other = outside key (section_after piece.held p.section) inside_is off in (
        without_in_both p.contents p.contents nothing (none_in_piece key piece.held p.section (inl other)),
        off,
        rw more_is at m.cut,
        λ front back e can. elim (cut_last p.parts front back m.part e) [
          | inl (none, all) ↦ cannot_follow key p.parts piece.held piece.blanks.now piece.bytes.now piece.rest.now piece.is_line m.part m.is_of m.cut.section_is (inl other) (rw all at can)
          | inr (left, is_front) ↦ never front left is_front can
        ],
      )
  place_kept (Some place) m (r, parts_are) either =
      let cannot = cannot_follow key p.parts piece.held piece.blanks.now piece.bytes.now piece.rest.now piece.is_line m.part m.is_of m.cut.section_is (elim either [
        | inl off ↦ inl (outside key (section_after piece.held p.section) inside_is off)
        | inr both ↦ inr (both.0, sym p.after_is ∙ both.1)
      ]) in
      let joined : p.parts ++ m.part ∷ [] ≡ r.parts ++ (r.later ++ m.part ∷ []) =
      ap (λ t. t ++ m.part ∷ []) parts_are ∙ append_assoc r.parts r.later (m.part ∷ []) in
      let more = contents_in piece.held p.section in
      let kept : IsPlaceIn key text piece.rest.now (p.contents ++ more) (section_after piece.held p.section) place =
      record {
        front = r.front;
        between = r.between ++ piece.bytes.now;
        before = r.before;
        after = r.after ++ more;
        there = r.there;
        parts = r.parts;
        later = r.later ++ m.part ∷ [];
        joined = r.joined;
        cut = joined_more place.rest.now r.between rest piece.bytes.now piece.rest.now r.cut is.joined;
        front_is = r.front_is;
        cuts = rw joined at (rw more_is at m.cut);
        can_follow = r.can_follow;
        is_last = λ front back e can. elim (cut_last r.later front back m.part e) [
          | inl (none, all) ↦ absurd (cannot
              (subst (λ t. CanFollow key t) (ap (λ f. r.parts ++ f) all ∙ sym joined) can))
          | inr (left, is_front) ↦ r.is_last front left is_front can
        ];
        are_ends = r.are_ends;
        closes = r.closes;
        in_section = r.in_section;
        passed = passed_join (some_left rest piece.rest.now shorter) r.passed
            (made_passed piece.held piece.blanks.now piece.is_line is.blank is.made p.section);
        last = without_in_both r.after r.after r.last (none_in_piece key piece.held p.section (elim either [
          | inl false_is ↦ inl (outside key (section_after piece.held p.section) inside_is false_is)
          | inr both ↦ inr both.0
        ]));
        contents_are = ap (λ c. c ++ more) r.contents_are ∙ append_assoc r.before r.after more;
      } in
      (kept, joined)

  pub placing_kept : (is_inside ≡ false) ⊎ ((is_item piece.held ≡ false) × (before ≡ false))
      → Placing key text piece.rest.now is_inside after inside f
  placing_kept either =
      let m = cut_step piece p.cuts is shorter in
      placing_more inside m (place_kept inside m p.place either)

pub placing_ends : {key : Key} {text rest : List ℕ} {contents : List Content} {is_inside after : Bool}
    (places : Places)
    → Placing key text rest is_inside after places.inside places.end → Ends None text contents
    → (rest ≡ []) ⊎ (¬ (IsRead rest)) → ArePlaces key text contents places
placing_ends {key = key} {text = text} {contents = contents} {is_inside = is_inside}
    {after = after} places p whole left =
    let (rest_is, text_is, contents_are) = all_passed p.past.joined p.past.passed whole left in
    let cuts = rw rest_is at p.cuts.cuts in
    record {
      section = p.section;
      parts = p.parts;
      closes = rw (← text_is, contents_are) at p.closes;
      cuts = rw append-nil at (cuts [] cut.ends);
      are_ends = p.are_ends;
      inside = places_at_end key text contents p.section is_inside after places.inside p.parts
          (rw (rest_is, contents_are) at p.place);
    }

-- the line of a new entry
pub name_parts : (name : List ℕ) → is_name name ≡ true
    → (b : ℕ) × (more : List ℕ) × (name ≡ b ∷ more) × (is_ascii_alphabetic b ≡ true)
    × (list_all is_key_byte name ≡ true)
name_parts [] is = absurd (true≢false (sym is))
name_parts (b ∷ more) is =
    let (letter, all) = and_parts (is_ascii_alphabetic b) (list_all is_key_byte more) is in
    (b, more, refl, letter, rw (letter_is_key_byte b letter, all) refl)

line_holds : (name value feed : List ℕ) → is_name name ≡ true → is_spellable value ≡ true → IsLineEnd feed
    → (section : Option Section)
    → (raw : List ℕ) × HasValue (Some raw) value
    × Holds section (new_line name value feed) ((section, name, Some raw) ∷ []) section
line_holds name value feed is spellable is_feed section =
    let (return, feed_is, return_is) = return_of feed is_feed in
    let (b, more, name_is, letter, key_bytes) = name_parts name is in
    let raw = 32 ∷ (git_spelled value ++ return) in
    let whole : SpellsValue raw value spells.outside =
    spells_between (32 ∷ []) return refl (return_blank return return_is) (git_spelling value spellable).0 in
    let after = 61 ∷ (raw ++ 10 ∷ []) in
    let key_takes : TakesKey (name ++ 32 ∷ after) name after =
    record {
      spaced = 32 ∷ after;
      spaces = 32 ∷ [];
      key_run = record { joined = refl; pass = key_bytes; longest = refl };
      space_run = record { joined = refl; pass = refl; longest = refl };
    } in
    let entry : IsEntry name (Some raw) (line_feeds raw) (10 ∷ []) (9 ∷ []) (new_line name value feed) [] true =
    record {
      front = name ++ 32 ∷ 61 ∷ raw;
      tail = 10 ∷ [];
      begins = (
        b,
        more ++ 32 ∷ after,
        append_assoc name (32 ∷ 61 ∷ raw) (10 ∷ [])
            ∙ ap (λ n. n ++ 32 ∷ after) name_is,
        letter,
      );
      takes = rw (append_assoc name (32 ∷ 61 ∷ raw) (10 ∷ []))
          (valued key_takes refl (closed refl whole (inl refl)));
      left = refl;
      is_tail = record {
        blanks = [];
        comment = [];
        are_blank = refl;
        is_comment = absent;
        ends = inl (
          refl,
          refl,
        );
      };
      joined = ap (λ f. 9 ∷ (name ++ 32 ∷ 61 ∷ 32 ∷ (git_spelled value ++ f))) feed_is ∙ simp append_assoc;
    } in
    (raw, (spells.outside, whole), entry_holds (9 ∷ []) refl entry section)

pub cut_bytes : {text : List ℕ} {parts : List Part} → Cuts text parts → text ≡ parts_bytes parts
cut_bytes cut.ends = refl
cut_bytes (cut.begins part is more) = ap (λ t. part_bytes part ++ t) (cut_bytes more)

feed_of : {front text feed also other : List ℕ} → IsFeedAt front text feed → front ≡ also → text ≡ other
    → IsFeedAt also other feed
feed_of is fronts texts = rw (fronts, texts) at is

-- an entry behind a text that is closed, or behind a header that is put there
added : {key : Key} {value text new : List ℕ} {contents : List Content} {there : Option Section} {s : Section}
    (parts later : List Part) (front back feed header headed : List ℕ) (before after : List Content) (e : End)
    → is_name key.name ≡ true → is_spellable value ≡ true → Closes None front before there e
    → Holds there headed [] (Some s) → Ends (Some s) back after → IsIn key (Some s) → NoneIn key after
    → contents ≡ before ++ after → text ≡ front ++ back
    → new ≡ front ++ (line_ends e feed ++ (headed ++ (new_line key.name value feed ++ back)))
    → Cuts text (parts ++ later) → front ≡ parts_bytes parts → IsFeedAt front text feed
    → EndsParts feed parts (line_ends e feed)
    → IsPlace key header feed parts later headed
    → IsAdded key value text contents new
added {key = key} {value = value} {text = text}
    {s = s} parts later front back feed header headed before after e is_a_name spellable closes head
    left in_section last old_is joined new_is cuts front_is feed_at ends_parts place =
    let is_feed = feed_is_end feed_at in
    let ends = line_ends e feed in
    let line = new_line key.name value feed in
    let (kept, holds, same) = closes feed is_feed in
    let (raw, has_value, line_is) = line_holds key.name value feed is_a_name spellable is_feed (Some s) in
    let behind = holds_end headed (line ++ back) head (holds_end line back line_is left) in
    let text_is : text ≡ parts_bytes (parts ++ later) = cut_bytes cuts in
    let back_is : back ≡ parts_bytes later =
    append_cancel_left front back (parts_bytes later)
    (sym joined ∙ text_is ∙ bytes_join parts later ∙ ap (λ f. f ++ parts_bytes later) (sym front_is)) in
    record {
      now = kept ++ (Some s, key.name, Some raw) ∷ after;
      ends = rw (new_is, ← append_assoc front ends (headed ++ (line ++ back)))
          (holds_end (front ++ ends) (headed ++ (line ++ back)) holds behind);
      adds = record {
        before = before;
        kept = kept;
        after = after;
        section = s;
        raw = raw;
        old_is = old_is;
        same = same;
        in_section = in_section;
        has_value = has_value;
        new_is = refl;
        last = last;
      };
      bytes = record {
        front = parts;
        back = later;
        feed = feed;
        ends = ends;
        header = header;
        headed = headed;
        spelling = git_spelled value;
        cuts = cuts;
        is_feed = feed_of feed_at front_is text_is;
        are_ends = ends_parts;
        is_place = place;
        spells = (git_spelling value spellable, refl);
        new_is = new_is ∙ ap (λ f. f ++ (ends ++ (headed ++ (line ++ back)))) front_is
            ∙ ap (λ b. parts_bytes parts ++ (ends ++ (headed ++ (line ++ b)))) back_is;
      };
    }

pub added_inside : {key : Key} (value text new feed front : List ℕ) {contents : List Content}
    {section : Option Section} {place : Insertion}
    → is_name key.name ≡ true → is_spellable value ≡ true
    → IsPlaceIn key text [] contents section place → IsFeedAt front text feed → text ≡ front ++ place.rest.now
    → new ≡ front ++ (line_ends place.end feed ++ (new_line key.name value feed ++ place.rest.now))
    → IsAdded key value text contents new
added_inside {key = key} value text new feed front {place = place} is_a_name spellable r feed_at joined new_is =
    let rest = place.rest.now in
    let front_is : front ≡ r.front = append_cancel_right front r.front rest (sym joined ∙ r.joined) in
    let (s, there_is, in_there) = in_some key r.there r.in_section in
    let rest_is : rest ≡ r.between = r.cut ∙ append-nil r.between in
    let later : Ends r.there rest r.after = rw rest_is (passed_ends refl r.passed) in
    let later_there : Ends (Some s) rest r.after = subst (λ t. Ends t rest r.after) there_is later in
    let head : Holds r.there [] [] (Some s) = subst (λ t. Holds r.there [] [] t) there_is (holds_nothing r.there) in
    let cuts = rw append-nil at (r.cuts.cuts [] cut.ends) in
    added r.parts r.later r.front rest feed [] [] r.before r.after place.end is_a_name spellable r.closes head later_there in_there
    r.last r.contents_are r.joined (rw front_is at new_is) cuts r.front_is (rw front_is at feed_at)
    (r.are_ends feed)
    (spec.inside r.can_follow r.is_last)

-- a new section
listed_as_stem : (name : List ℕ) (raw text : Option (List ℕ)) → SpellsOptional SpellsSubsection raw text
    → IsListedSection (name, raw) ((map to_ascii_lowercase name ++ dotted text) ++ 46 ∷ [])
listed_as_stem name None None spells = rw append-nil listing.plain
listed_as_stem name (Some raw) (Some text) spells =
    simp append_assoc (simp append_assoc at (listing.quoted {name = name} spells))
listed_as_stem name None (Some text) spells = absurd spells
listed_as_stem name (Some raw) None spells = absurd spells

names_in : (key : Key) (section : Section) → SpellsSection section key.section key.subsection
    → IsIn key (Some section)
names_in key section (name_is, spells) =
    rw (← name_is) (listed_as_stem section.0 section.1 key.subsection spells)

-- a text without a header of the key
pub record NoPlaces (key : Key) (text : List ℕ) (contents : List Content) (e : End) : Type 0 where
  pub parts : List Part
  pub cuts : Cuts text parts
  pub are_ends : (feed : List ℕ) → EndsParts feed parts (line_ends e feed)
  pub nothing : NoneIn key contents
  pub never : (front back : List Part) → parts ≡ front ++ back → ¬ (CanFollow key front)

pub added_behind : (key : Key) (value text new feed : List ℕ) (contents : List Content)
    (section : Option Section) (e : End)
    → is_name key.name ≡ true → is_spellable value ≡ true
    → is_section key.section key.subsection ≡ true → (places : NoPlaces key text contents e)
    → Closes None text contents section e
    → IsFeedAt text text feed
    → new ≡ text ++ (line_ends e feed
    ++ ((91 ∷ spelled_section key.section key.subsection) ++ (feed ++ new_line key.name value feed)))
    → IsAdded key value text contents new
added_behind key value text new feed contents section e is_a_name spellable is_a_section places closes feed_at new_is =
    let line = new_line key.name value feed in
    let header = 91 ∷ spelled_section key.section key.subsection in
    let holds_header = header_spelled key.section key.subsection is_a_section in
    let (inner, s, header_is, names, header_at) = holds_header in
    let at : IsHeaderAt s [] header = record { inner = inner; joined = header_is; header = header_at } in
    let head : Holds section (header ++ feed) [] (Some s) =
    holds_join header feed (header_holds refl at section)
    (end_holds (Some s) feed (inr (feed_is_end feed_at))) in
    added places.parts [] text [] feed header (header ++ feed) contents [] e is_a_name spellable closes head
    (passed_ends refl (anywhere (holds_nothing (Some s)))) (names_in key s names) spec.none
    (sym (append-nil contents))
    (sym (append-nil text)) (rw (append-nil line, append_assoc header feed line) new_is)
    (rw (append-nil places.parts) places.cuts) (cut_bytes places.cuts) feed_at (places.are_ends feed)
    (spec.at_end places.never (holds_header, refl))

-- what the code knows of the section after a piece
pub inside_after_header : (key : Key) (before : Option Section) (is_inside : Bool) (h : Held)
    (blanks bytes rest : List ℕ) (is_line : Bool)
    → IsMade h blanks bytes rest is_line
    → (section : code.Section) → h ≡ held.Header section
    → ((text : List ℕ) → IsListedSection (section_of section) text
    → (IsTrue is_inside ↔ IsListedSection (section_of section) (stem key ++ 46 ∷ [])))
    → (IsTrue is_inside ↔ IsIn key (section_after h before))
inside_after_header key before is_inside h blanks bytes rest is_line made section e asks =
    let (listed, spelled) = header_listed h blanks bytes rest is_line made section e in
    rw e (asks listed spelled)

pub inside_after_other : (key : Key) (section : Option Section) (is_inside : Bool) (h : Held)
    → ((new : code.Section) → h ≡ held.Header new → ⊥) → (IsTrue is_inside ↔ IsIn key section)
    → (IsTrue is_inside ↔ IsIn key (section_after h section))
inside_after_other key section is_inside h other both = rw (other_after h section other) both

pub place_within : {key : Key} {text rest : List ℕ} {is_inside after : Bool} (inside : Option Insertion)
    {e : End}
    → Placing key text rest is_inside after inside e
    → IfSome inside (λ place. (front : List ℕ) × (text ≡ front ++ place.rest.now))
place_within None p = tt
place_within (Some place) p = (p.place.0.front, p.place.0.joined)

pub header_after : (h : Held) (is : Bool) → ((new : code.Section) → h ≡ held.Header new → ⊥) → is ≡ false
    → is ≡ holds_header h
header_after (held.Header new) is other e = absurd (other new refl)
header_after h is other e = e

pub ends_no_line : {is_line : Bool} (h : Held) → EndsNoLine h is_line → holds_header h ≡ true → is_line ≡ false
ends_no_line (held.Header new) is on = is
ends_no_line (held.Entry parts) is on = absurd (true≢false (sym on))
ends_no_line h is on = absurd (true≢false (sym on))
