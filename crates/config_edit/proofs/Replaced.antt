-- Texts in which an entry has another value.
use Rattle.std.proofs.Common.{◌≡◌, ℕ, ◌+◌, ◌<◌, Bool, false, List, [], ◌∷◌, ◌++◌, Option, Some, None, is_some}
use Rattle.std.proofs.Common.{length, refl, sym, ap, ◌∙◌, subst, append_assoc, append-nil, inl, inr, ◌⊎◌}
use Rattle.std.proofs.Common.{true≢false, arith, ◌≤◌, true}
use Rattle.config_file.specs.declared.entry.EntryParts.{EntryParts}
use Rattle.config_edit.specs.declared.setting.Found.{Found}
use Rattle.config_edit.specs.declared.piece.Held.{Held}
use Rattle.config_edit.specs.declared.piece.Held.TheVariants as held
use Rattle.config_edit.specs.declared.piece.Piece.{Piece}
use Rattle.config_file.specs.declared.section.Section as code
use Rattle.config_file.specs.Header.{Section}
use Rattle.config_file.specs.File as file
use Rattle.config_file.specs.File.{Entry}
use Rattle.config_file.specs.Listing as listing
use Rattle.config_file.specs.Listing.{IsListed}
use Rattle.config_file.specs.Key.{Key, HasKey}
use Rattle.config_edit.specs.Edit as spec
use Rattle.config_edit.specs.Edit.{Content, content, IsIn, IsOf, IsEntryOf, Without, ReplacesPart, GivesValue}
use Rattle.config_edit.specs.Edit.{HasNone, HasOne, HasSeveral, Replaces, HasValue, LeavesEnd}
use Rattle.config_edit.specs.Cut as cut
use Rattle.config_edit.specs.Cut.{value_bytes, Part, Cuts, EachBecomes, part_bytes, entries_in}
use Rattle.config_edit.specs.Cut.{ends_in_header, ends_line, section_from}
use Rattle.config_edit.specs.Reached as reached
use Rattle.config_edit.specs.Reading.{Holds, Ends, Passed, anywhere, at_end, IsMade, IsPiece, IsValued}
use Rattle.config_edit.specs.Reading.{IsShaped, holds_header}
use Rattle.config_edit.specs.Reading.{contents_in, section_after, IsListable, IsPast, content_of, IsEntryHeld}
use Rattle.config_edit.specs.Reading.{IsFound, Replacing, IsReplaced, IsLeft, IsCut, entry_part}
use Rattle.config_edit.specs.Reading.{IsEnd}
use Rattle.config_edit.proofs.OnePart.{left_is_end}
use Rattle.config_file.specs.Views.{value_of}
use Rattle.std.proofs.lemmas.List.{append_cancel_left, append_cancel_right, length-append}
use Rattle.config_file.proofs.EachReading.{not_empty}
use Rattle.config_edit.proofs.Pieces.{entry_passed, made_passed}
use Rattle.config_edit.proofs.Edits.{holds_nothing, holds_join, holds_end, passed_holds, passed_join}
use Rattle.config_edit.proofs.Edits.{passed_ends, ends_once, some_left, joined_more, header_listed}
use Rattle.config_edit.proofs.Cuts.{IsPartOf}
use Rattle.config_edit.proofs.CutLoops.{CutMore, cut_begins, cut_step, stay_more, none_stay, entry_held}
use Rattle.config_edit.proofs.CutLoops.{entries_join}

-- texts one after the other
pub holds_then : {section middle next : Option Section} {rest : List ℕ} (a b : List ℕ) {xs ys : List Content}
    → Holds section a xs middle → Passed middle b ys next rest
    → Passed section (a ++ b) (xs ++ ys) next rest
holds_then a b first (anywhere second) = anywhere (holds_join a b first second)
holds_then a b first (at_end none second) = at_end none (holds_end a b first second)

nothing_more : {section next : Option Section} {rest : List ℕ} {contents : List Content} → rest ≡ []
    → Passed section [] contents next rest → contents ≡ []
nothing_more none passed = ends_once (passed_ends none passed) (λ line. ([], file.ends, refl))

pub passed_then : {section middle next : Option Section} {rest : List ℕ} (a b : List ℕ) {xs ys : List Content}
    → Passed section a xs middle (b ++ rest) → Passed middle b ys next rest
    → Passed section (a ++ b) (xs ++ ys) next rest
passed_then a b (anywhere first) second = holds_then a b first second
passed_then a [] (at_end none first) second =
    let nothing = nothing_more none second in simp (nothing, append-nil) (at_end none first)
passed_then {rest = rest} a (b ∷ more) (at_end none first) second = absurd (not_empty b (more ++ rest) none)

pub end_holds : (section : Option Section) (bytes : List ℕ) → IsEnd bytes → Holds section bytes [] section
end_holds section bytes (inl none) = rw none (holds_nothing section)
end_holds section bytes (inr (inl feed)) =
    rw feed (λ line other. (line + 1, [], reached.line_end refl reached.here, refl))
end_holds section bytes (inr (inr return)) =
    rw return (λ line other. (line + 1, [], reached.blank refl (reached.line_end refl reached.here), refl))

-- entries of a key
pub is_listed : (section : Option Section) (key : List ℕ) → IsListable section
    → (text : List ℕ) × IsListed section key text
is_listed None key listable = (_, listing.alone)
is_listed (Some section) key (listed, is) = (_, listing.in_section is)

pub of_key : (entry : Entry) (key : Key) → HasKey entry key → IsOf key (content entry)
of_key entry key has = (subst (λ s. IsIn key s) (sym has.in_section) has.stem_listed, has.same_name)

pub in_some : (key : Key) (section : Option Section) → IsIn key section
    → (s : Section) × (section ≡ Some s) × IsIn key (Some s)
in_some key None is = absurd is
in_some key (Some s) is = (s, refl, is)

pub has_key : (entry : Entry) (key : Key) → IsOf key (content entry) → HasKey entry key
has_key entry key (is_in, same) =
    let (section, e, listed) = in_some key entry.section is_in in
    record { section = section; in_section = e; stem_listed = listed; same_name = same }

-- contents without those of a key
pub without_both : {key : Key} (a b : List Content) {c d : List Content} → Without key None a b
    → Without key None c d
    → Without key None (a ++ c) (b ++ d)
without_both a b first spec.none = simp append-nil first
without_both a b first (spec.lost x {old = old} second is at) =
    rw (← append_assoc a old (x ∷ [])) (spec.lost x (without_both a b first second) is at)
without_both a b first (spec.kept x {old = old} {new = new} second other) =
    rw (← append_assoc a old (x ∷ []), ← append_assoc b new (x ∷ []))
    (spec.kept x (without_both a b first second) other)

pub none_in : {key : Key} (h : Held) (section : Option Section) → ¬ (IsEntryHeld key section h)
    → HasNone key (contents_in h section)
none_in (held.Entry parts) section other = spec.kept (content_of section parts) spec.none (λ is. other is.0)
none_in h section other = spec.none

-- one piece more
pub listable_after : (h : Held) (blanks bytes rest : List ℕ) (is_line : Bool)
    → IsMade h blanks bytes rest is_line → (section : Option Section) → IsListable section
    → IsListable (section_after h section)
listable_after (held.Header new) blanks bytes rest is_line made section is =
    header_listed (held.Header new) blanks bytes rest is_line made new refl
listable_after h blanks bytes rest is_line made section is = is

pub other_after : (h : Held) (section : Option Section) → ((new : code.Section) → h ≡ held.Header new → ⊥)
    → section_after h section ≡ section
other_after (held.Header new) section other = absurd (other new refl)
other_after h section other = refl

pub past_begins : (text : List ℕ) → IsPast text text [] [] None
past_begins text = record { joined = refl; passed = anywhere (holds_nothing None); listable = tt }

pub piece_passed : {text : List ℕ} (piece : Piece) → IsPiece text piece → (section : Option Section)
    → Passed section piece.bytes.now (contents_in piece.held section)
    (section_after piece.held section) piece.rest.now
piece_passed piece is section = made_passed piece.held piece.blanks.now piece.is_line is.blank is.made section

pub past_more : {text rest front : List ℕ} {contents : List Content} {section : Option Section}
    (piece : Piece)
    → IsPast text rest front contents section → IsPiece rest piece
    → length piece.rest.now < length rest
    → IsPast text piece.rest.now (front ++ piece.bytes.now) (contents ++ contents_in piece.held section)
    (section_after piece.held section)
past_more {text = text} {rest = rest} {front = front} {section = section} piece past is shorter =
    record {
      joined = joined_more text front rest piece.bytes.now piece.rest.now past.joined is.joined;
      passed = passed_join (some_left rest piece.rest.now shorter) past.passed
          (piece_passed piece is section);
      listable = listable_after piece.held piece.blanks.now piece.bytes.now piece.rest.now piece.is_line is.made section past.listable;
    }

pub replacing_begins : (key : Key) (text : List ℕ) → Replacing key text text text [] None None false false
replacing_begins key text =
    ([], [], [], past_begins text, spec.none, refl, refl, refl, cut_begins text, none_stay key [], refl)

pub replacing_passes : (key : Key) (text rest start new : List ℕ) (section : Option Section)
    (several in_line : Bool)
    (found : Option Found) (piece : Piece)
    → Replacing key text rest start new section found several in_line → IsPiece rest piece
    → length piece.rest.now < length rest → ¬ (IsEntryHeld key section piece.held)
    → Replacing key text piece.rest.now start new (section_after piece.held section) found several
    (holds_header piece.held)
replacing_passes key text rest start new section several in_line None piece (
  front,
  contents,
  parts,
  past,
  nothing,
  start_is,
  new_is,
  several_is,
  cuts,
  stays,
  in_line_is,
) is shorter other =
    let m = cut_step piece cuts is shorter in
    let more = contents_in piece.held section in
    let stay = stay_more parts m.part stays (λ of. other (entry_held piece.held piece.blanks.now piece.bytes.now piece.rest.now piece.is_line m.part key parts m.is_of cuts.section_is of)) in (
      front ++ piece.bytes.now,
      contents ++ more,
      parts ++ m.part ∷ [],
      past_more piece past is shorter,
      without_both contents contents nothing (none_in piece.held section other),
      start_is,
      new_is,
      several_is,
      rw (length-append contents more) m.cut,
      rw m.part_is at stay,
      m.in_header,
    )
replacing_passes key text rest start new section several in_line (Some f) piece (
  r,
  in_line_is,
) is shorter other =
    let first = r.parts ++ entry_part f.piece f.parts r.inner r.tail ∷ [] in
    let m = cut_step piece r.cuts is shorter in
    let more = contents_in piece.held section in
    let x = content_of r.at f.parts in
    let stay = stay_more r.later m.part r.stays (λ of. other (entry_held piece.held piece.blanks.now piece.bytes.now piece.rest.now piece.is_line m.part key (first ++ r.later) m.is_of r.cuts.section_is of)) in
    let joined = append_assoc first r.later (m.part ∷ []) in
    let count : length (r.before ++ x ∷ r.after) + length more ≡ length (r.before ++ x ∷ (r.after ++ more)) =
    sym (length-append (r.before ++ x ∷ r.after) more)
    ∙ ap (λ l. length l) (append_assoc r.before (x ∷ r.after) more) in
    let next : IsFound key text piece.rest.now start new (section_after piece.held section) f several =
    record {
      front = r.front;
      between = r.between ++ piece.bytes.now;
      before = r.before;
      left = r.left;
      after = r.after ++ more;
      at = r.at;
      joined = r.joined;
      start_is = r.start_is;
      cut = joined_more start r.between rest piece.bytes.now piece.rest.now r.cut is.joined;
      before_is = r.before_is;
      now_is = r.now_is;
      blank = r.blank;
      is_entry = r.is_entry;
      is_of = r.is_of;
      others = r.others;
      parts = r.parts;
      inner = r.inner;
      tail = r.tail;
      later = r.later ++ m.part ∷ [];
      left_is = r.left_is;
      part_is = r.part_is;
      section_is = r.section_is;
      counted = r.counted;
      in_line = r.in_line;
      cuts = rw (joined, count) at m.cut;
      changes = r.changes;
      stays = rw m.part_is at stay;
      between_is = passed_join (some_left rest piece.rest.now shorter) r.between_is
          (piece_passed piece is section);
      last = without_both r.after r.after r.last (none_in piece.held section other);
      listable = listable_after piece.held piece.blanks.now piece.bytes.now piece.rest.now piece.is_line is.made section r.listable;
      single = r.single;
      many = r.many;
    } in
    (next, m.in_header ∙ ap (λ p. ends_in_header p) joined)

found_past : {key : Key} {text rest start new : List ℕ} {section : Option Section} {f : Found}
    {several : Bool}
    (r : IsFound key text rest start new section f several)
    → IsPast text rest (r.front ++ (f.piece.bytes.now ++ r.between))
    (r.before ++ content_of r.at f.parts ∷ r.after) section
found_past {rest = rest} {f = f} r =
    let bytes = f.piece.bytes.now in
    let follows : f.piece.rest.now ≡ r.between ++ rest = sym r.start_is ∙ r.cut in
    let entry = rw follows at (entry_passed f.piece.blanks.now f.piece.is_line r.blank r.is_entry r.at) in
    record {
      joined = simp (r.joined, r.cut, append_assoc);
      passed = holds_then r.front (bytes ++ r.between) r.before_is
          (passed_then bytes r.between entry r.between_is);
      listable = r.listable;
    }

pub looked_past : (key : Key) (text rest start new : List ℕ) (section : Option Section) (several in_line : Bool)
    (found : Option Found) → Replacing key text rest start new section found several in_line
    → (front : List ℕ) × (contents : List Content) × IsPast text rest front contents section
looked_past key text rest start new section several in_line None (
  front,
  contents,
  parts,
  past,
  n,
  s,
  e,
  o,
  c,
  t,
  i,
) =
    (front, contents, past)
looked_past key text rest start new section several in_line (Some f) (r, in_line_is) = (_, _, found_past r)

-- the part of an entry
pub one_entry_part : (piece : Piece) (parts : EntryParts) (between tail also other : List ℕ)
    → tail ++ piece.rest.now ≡ other ++ piece.rest.now
    → part_bytes (entry_part piece parts between tail) ≡ part_bytes (entry_part piece parts also other)
    → (between ≡ also) × (tail ≡ other)
one_entry_part piece parts between tail also other rests e =
    let tails = append_cancel_right tail other piece.rest.now rests in
    let raw = value_bytes (value_of parts.value) in
    let key = parts.key.now in
    let whole = append_cancel_left piece.blanks.now ((key ++ (between ++ raw)) ++ tail) ((key ++ (also ++ raw)) ++ other) e in
    let fronts = append_cancel_right (key ++ (between ++ raw)) (key ++ (also ++ raw)) tail
    (whole ∙ ap (λ t. (key ++ (also ++ raw)) ++ t) (sym tails)) in
    let behind = append_cancel_left key (between ++ raw) (also ++ raw) fronts in
    (append_cancel_right between also raw behind, tails)

some_raw : {raw : Option (List ℕ)} {value : List ℕ} → HasValue raw value
    → (bytes : List ℕ) × (raw ≡ Some bytes) × HasValue (Some bytes) value
some_raw {raw = None} has = absurd has
some_raw {raw = Some bytes} has = (bytes, refl, has)

pub part_entry : {h : Held} {parts : EntryParts} {part : Part} (piece : Piece)
    → IsPartOf h piece.blanks.now piece.bytes.now piece.rest.now piece.is_line part → h ≡ held.Entry parts
    → (inner tail : List ℕ) × (part ≡ entry_part piece parts inner tail)
    × (parts.rest.now ≡ tail ++ piece.rest.now)
part_entry piece is e = rw e at is

found_cut : {text : List ℕ} {section : Option Section} {before : List Part} {piece : Piece}
    {parts : EntryParts} {part : Part}
    (old : List Content) (x : Content) (m : CutMore text section (length old) before piece) → m.part ≡ part
    → piece.held ≡ held.Entry parts
    → IsCut text piece.rest.now section (length (old ++ x ∷ [])) ((before ++ part ∷ []) ++ [])
found_cut {section = section} {before = before} {piece = piece} {part = part} old x m part_is e =
    rw (append-nil (before ++ part ∷ []), length-append old (x ∷ []), ← part_is)
    (rw e at m.cut)

-- one entry of the key more
is_entry_of : {at : Option Section} (key : Key) (before : List Part) (f : Found) (inner tail : List ℕ)
    → section_from None before ≡ at → IsOf key (content_of at f.parts)
    → IsEntryOf key before (entry_part f.piece f.parts inner tail)
is_entry_of key before f inner tail same of = rw same of

left_end : {bytes : List ℕ} {in_line : Bool} (f : Found) (left : List ℕ)
    → LeavesEnd f.in_line f.piece.bytes.now f.piece.is_line left
    → f.in_line ≡ in_line → bytes ≡ f.piece.bytes.now → LeavesEnd in_line bytes f.piece.is_line left
left_end f left leaves same bytes_are = rw (same, ← bytes_are) at leaves

pub replacing_finds : (key : Key) (text rest start new : List ℕ) (section : Option Section)
    (several in_line : Bool)
    (found : Option Found) (f : Found) (left between : List ℕ)
    → Replacing key text rest start new section found several in_line → f.in_line ≡ in_line
    → IsPiece rest f.piece
    → length f.piece.rest.now < length rest → f.piece.held ≡ held.Entry f.parts
    → IsOf key (content_of section f.parts) → IsLeft found left → start ≡ between ++ rest
    → Replacing key text f.piece.rest.now f.piece.rest.now (new ++ (left ++ between)) section (Some f)
    (is_some found)
    (holds_header f.piece.held)
replacing_finds key text rest start new section several in_line None f left between (
  front,
  contents,
  parts,
  past,
  nothing,
  start_is,
  new_is,
  several_is,
  cuts,
  stays,
  in_line_is,
) f_line is shorter e is_of left_is joined =
    let between_is : between ≡ front =
    append_cancel_right between front rest (sym joined ∙ start_is ∙ past.joined) in
    let holds = passed_holds (some_left rest f.piece.rest.now shorter) past.passed in
    let m = cut_step f.piece cuts is shorter in
    let (inner, tail, part_is, left_of) = part_entry f.piece m.is_of e in
    let part = entry_part f.piece f.parts inner tail in
    let begun : IsFound key text f.piece.rest.now f.piece.rest.now front section f false =
    record {
      front = front;
      between = [];
      before = contents;
      left = contents;
      after = [];
      at = section;
      joined = past.joined ∙ ap (λ r. front ++ r) is.joined;
      start_is = refl;
      cut = refl;
      before_is = holds;
      now_is = holds;
      blank = is.blank;
      is_entry = rw e at is.made;
      is_of = is_of;
      others = nothing;
      parts = parts;
      inner = inner;
      tail = tail;
      later = [];
      left_is = left_of;
      part_is = rw part_is at m.part_is;
      section_is = cuts.section_is;
      counted = cuts.counted;
      in_line = f_line ∙ in_line_is;
      cuts = found_cut contents (content_of section f.parts) m part_is e;
      changes = λ value last below. stays value last [] cut.none;
      stays = none_stay key (parts ++ part ∷ []);
      between_is = anywhere (holds_nothing section);
      last = spec.none;
      listable = past.listable;
      single = λ one. refl;
      many = λ yes. absurd (true≢false (sym yes));
    } in
    rw (new_is, left_is, between_is) (
      begun,
      m.in_header ∙ ap (λ p. ends_in_header p) (ap (λ p. parts ++ p ∷ []) part_is
          ∙ sym (append-nil (parts ++ part ∷ []))),
    )
replacing_finds key text rest start new section several in_line (Some g) f left between (
  r,
  in_line_is,
) f_line is shorter e is_of
    leaves joined =
    let some = some_left rest f.piece.rest.now shorter in
    let x = content_of r.at g.parts in
    let y = content_of section f.parts in
    let bytes = g.piece.bytes.now in
    let between_is : between ≡ r.between = append_cancel_right between r.between rest (sym joined ∙ r.cut) in
    let gap = passed_holds some r.between_is in
    let gone = entry_part g.piece g.parts r.inner r.tail in
    let parts = (r.parts ++ gone ∷ []) ++ r.later in
    let m = cut_step f.piece r.cuts is shorter in
    let (inner, tail, part_is, left_of) = part_entry f.piece m.is_of e in
    let part = entry_part f.piece f.parts inner tail in
    let old = r.before ++ x ∷ r.after in
    let goes : (value : List ℕ) (last : ℕ) → entries_in parts ≤ last
    → EachBecomes (ReplacesPart key value last) parts (new ++ (left ++ r.between)) =
    λ value last below.
    let size = r.cuts.counted ∙ length-append r.before (x ∷ r.after) in
    let here : entries_in r.parts < last = omega (arith, r.counted, size, below) in
    let leave = left_end g left leaves r.in_line r.part_is in
    let step = cut.next gone left (r.changes value last (omega arith))
    (spec.goes (is_entry_of key r.parts g r.inner r.tail r.section_is r.is_of) here leave) in
    rw (append_assoc new left r.between) at (r.stays value last (new ++ left) step) in
    let found : IsFound key text f.piece.rest.now f.piece.rest.now (new ++ (left ++ r.between)) section f true =
    record {
      front = r.front ++ (bytes ++ r.between);
      between = [];
      before = old;
      left = r.left ++ r.after;
      after = [];
      at = section;
      joined = simp (r.joined, r.cut, is.joined, append_assoc);
      start_is = refl;
      cut = refl;
      before_is = passed_holds some (found_past r).passed;
      now_is = holds_join new (left ++ r.between) r.now_is
          (holds_join left r.between (end_holds r.at left
          (left_is_end g.in_line g.piece.bytes.now left g.piece.is_line leaves)) gap);
      blank = is.blank;
      is_entry = rw e at is.made;
      is_of = is_of;
      others = without_both r.before r.left r.others
          (without_both (x ∷ []) [] (spec.lost x spec.none r.is_of tt) r.last);
      parts = parts;
      inner = inner;
      tail = tail;
      later = [];
      left_is = left_of;
      part_is = rw part_is at m.part_is;
      section_is = r.cuts.section_is;
      counted = r.cuts.counted;
      in_line = f_line ∙ in_line_is;
      cuts = found_cut old y m part_is e;
      changes = goes;
      stays = none_stay key (parts ++ part ∷ []);
      between_is = anywhere (holds_nothing section);
      last = spec.none;
      listable = r.listable;
      single = λ one. absurd (true≢false one);
      many = λ m. (r.before, r.after, [], x, y, append_assoc r.before (x ∷ r.after) (y ∷ []), r.is_of, is_of);
    } in
    rw between_is (
      found,
      m.in_header ∙ ap (λ p. ends_in_header p) (ap (λ p. parts ++ p ∷ []) part_is
          ∙ sym (append-nil (parts ++ part ∷ []))),
    )

-- at the end of the text
pub none_replaced : (key : Key) (text rest start new : List ℕ) (section : Option Section)
    (several in_line : Bool)
    → Replacing key text rest start new section None several in_line → rest ≡ []
    → (contents : List Content) × Ends None text contents × HasNone key contents
none_replaced key text rest start new section several in_line (
  front,
  contents,
  parts,
  past,
  nothing,
  s,
  e,
  o,
  c,
  t,
  i,
) none =
    let text_is = rw (none, append-nil) at past.joined in
    (contents, rw text_is (passed_ends none past.passed), nothing)

-- the entry of a piece gets the value
gives_of : {value put : List ℕ} {piece : Piece} {parts : EntryParts}
    (s : IsShaped parts.key.now (Some value) parts piece put)
    (inner tail : List ℕ)
    → parts.rest.now ≡ tail ++ piece.rest.now → part_bytes (entry_part piece parts inner tail) ≡ piece.bytes.now
    → GivesValue value (entry_part piece parts inner tail) put
gives_of {piece = piece} {parts = parts} s inner tail left part_is =
    let (inners, tails) = one_entry_part piece parts s.between s.tail inner tail (sym s.left ∙ left) (sym s.bytes_are ∙ sym part_is) in
    rw (← inners, ← tails) (s.bytes, s.is_valued, s.put_is)

pub one_replaced : {key : Key} {text rest start new value put : List ℕ}
    {section : Option Section} {several in_line : Bool} {f : Found}
    → Replacing key text rest start new section (Some f) several in_line
    → rest ≡ [] → IsValued (Some value) f.parts f.piece put
    → (contents : List Content) × Ends None text contents
    × IsReplaced key value text contents (new ++ (put ++ start)) several
one_replaced {key = key} {text = text} {start = start} {new = new} {value = value} {put = put}
    {section = section} {f = f} (found, in_line_is) rest_is set =
    let r = rw rest_is at found in
    let x : Content = content_of r.at f.parts in
    let now_x : Content = (r.at, f.parts.key.now, set.raw) in
    let start_is : start ≡ r.between = r.cut ∙ append-nil r.between in
    let past = found_past r in
    let follows : f.piece.rest.now ≡ r.between ++ [] = sym r.start_is ∙ r.cut in
    let entry_now = rw follows at (entry_passed f.piece.blanks.now f.piece.is_line r.blank set.entry r.at) in
    let passed_now = holds_then new (put ++ r.between) r.now_is
    (passed_then put r.between entry_now r.between_is) in
    let part = entry_part f.piece f.parts r.inner r.tail in
    let last = length r.before in
    let gives = spec.gets (is_entry_of key r.parts f r.inner r.tail r.section_is r.is_of) r.counted
    (gives_of set.shaped r.inner r.tail r.left_is r.part_is) in
    let changed : EachBecomes (ReplacesPart key value last) (r.parts ++ part ∷ []) (new ++ put) =
    cut.next part put (r.changes value last (omega (arith, r.counted))) gives in
    let becomes = rw (append_assoc new put r.between, ← start_is) at (r.stays value last (new ++ put) changed) in
    let cuts = rw append-nil at (r.cuts.cuts [] cut.ends) in
    let (raw, raw_is, has) = some_raw set.value_is in (
      r.before ++ x ∷ r.after,
      rw (past.joined, append-nil) (passed_ends refl past.passed),
      record {
        now = r.left ++ now_x ∷ r.after;
        parts = (r.parts ++ part ∷ []) ++ r.later;
        ends = rw start_is (passed_ends refl passed_now);
        replaces = record {
          before = r.before;
          left = r.left;
          after = r.after;
          x = x;
          raw = raw;
          old_is = refl;
          is_of = r.is_of;
          last = r.last;
          others = r.others;
          has_value = has;
          new_is = ap (λ v. r.left ++ (r.at, f.parts.key.now, v) ∷ r.after) raw_is;
        };
        cuts = cuts;
        becomes = becomes;
        single = λ one. (r.before, r.after, x, refl, r.is_of, rw (r.single one) at r.others, r.last);
        many = λ yes.
            let (before, between, after, a, b, e, is_a, is_b) = r.many yes in
            let all_is = simp append_assoc at (ap (λ c. c ++ r.after) e) in
            (before, between, after ++ r.after, a, b, all_is, is_a, is_b);
      },
    )

pub no_entry_held : (key : Key) (section : Option Section) (h : Held)
    → (h ≡ held.Nothing) ⊎ (h ≡ held.Comment) → ¬ (IsEntryHeld key section h)
no_entry_held key section h (inl e) is = subst (IsEntryHeld key section) e is
no_entry_held key section h (inr e) is = subst (IsEntryHeld key section) e is

pub no_header_after : (h : Held) (section : Option Section) → (h ≡ held.Nothing) ⊎ (h ≡ held.Comment)
    → section_after h section ≡ section
no_header_after h section (inl e) = ap (λ x. section_after x section) e
no_header_after h section (inr e) = ap (λ x. section_after x section) e
