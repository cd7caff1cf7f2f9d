-- Texts in which entries have other keys and values.
use Rattle.std.proofs.Common.{◌≡◌, ◌≢◌, ℕ, ◌+◌, ◌<◌, ◌≤◌, Bool, true, List, [], ◌∷◌, ◌++◌, Option, Some, None}
use Rattle.std.proofs.Common.{length, drop, refl, sym, ap, ◌∙◌, subst, append_assoc, append-nil, ◌⊎◌, arith}
use Rattle.std.proofs.Common.{option_copied, MatchOption, inl, inr}
use Rattle.std.specs.Bool.{⊤}
use Rattle.std.proofs.lemmas.List.{append_cancel_left, append_cancel_right, length-append, length-drop}
use Rattle.config_edit.specs.declared.Change.{Change}
use Rattle.config_edit.specs.declared.piece.Held.{Held}
use Rattle.config_edit.specs.declared.piece.Held.TheVariants as held
use Rattle.config_edit.specs.declared.piece.Piece.{Piece}
use Rattle.config_file.specs.declared.entry.EntryParts.{EntryParts}
use Rattle.config_file.specs.Bytes.{BeginsWithLetter}
use Rattle.config_file.specs.Header.{Section}
use Rattle.config_file.specs.File.{TakesKey, TakesEntry, alone, valued}
use Rattle.config_file.specs.Key.{is_name}
use Rattle.config_edit.specs.Edit as spec
use Rattle.config_edit.specs.Edit.{Content, ChangesEach, ChangesPart, NamesPart, AreInOrder, IsChanged}
use Rattle.config_edit.specs.Edit.{Has, name_after}
use Rattle.config_edit.specs.Cut as cut
use Rattle.config_edit.specs.Cut.{value_bytes, Part, EachBecomes, part_bytes, entries_in}
use Rattle.config_edit.specs.Reading.{Ends, anywhere, IsRead, IsPiece, IsChangedIn, IsNamed, IsCut, entry_part}
use Rattle.config_edit.specs.Reading.{IsValued}
use Rattle.config_edit.specs.Reading.{IsWritableComment}
use Rattle.std.specs.List.{AllByRecursion}
use Rattle.config_edit.specs.Reading.{AreLater, IsWritable, Changing, IsEachChanged, contents_in}
use Rattle.config_edit.specs.Reading.{section_after, content_of, IsShaped}
use Rattle.config_edit.specs.Reading.{IsEntry}
use Rattle.config_file.specs.Views.{value_of}
use Rattle.config_edit.proofs.Added.{name_parts}
use Rattle.config_edit.proofs.Pieces.{entry_passed, key_joined}
use Rattle.config_edit.proofs.Cuts.{IsPartOf}
use Rattle.config_edit.proofs.CutLoops.{cut_begins, cut_step}
use Rattle.config_edit.proofs.Changed.{IsEntryIn, value_ends, behind, front_is_behind}
use Rattle.config_edit.proofs.Replaced.{piece_passed, part_entry, one_entry_part}
use Rattle.config_edit.proofs.Edits.{holds_nothing, passed_join, passed_ends, all_passed, some_left}
use Rattle.config_edit.proofs.Edits.{joined_more}

-- an entry with another key
takes_named : {text key rest : List ℕ} (name : List ℕ) → is_name name ≡ true → (t : TakesKey text key rest)
    → TakesKey (name ++ t.spaced) name rest
takes_named name is t =
    record {
      spaced = t.spaced;
      spaces = t.spaces;
      key_run = record { joined = refl; pass = let (b, more, name_is, letter, all) = name_parts name is in all; longest = t.key_run.longest };
      space_run = t.space_run;
    }

pub begins_named : (name rest : List ℕ) → is_name name ≡ true → BeginsWithLetter (name ++ rest)
begins_named name rest is =
    let (b, more, name_is, letter, all) = name_parts name is in
    (b, more ++ rest, ap (λ n. n ++ rest) name_is, letter)

pub entry_named : {text key rest : List ℕ} {value : Option (List ℕ)} {lines : ℕ} (name : List ℕ)
    → is_name name ≡ true → TakesEntry text key value lines rest
    → (more : List ℕ) × (text ≡ (key ++ more) ++ rest)
    × TakesEntry ((name ++ more) ++ rest) name value lines rest
entry_named name is (alone {rest = rest} t end) =
    (t.spaces, key_joined rest t, rw (append_assoc, ← t.space_run.joined) (alone (takes_named name is t) end))
entry_named name is (valued {b = b} {key = key} {raw = raw} {rest = rest} t is_sign value) =
    let more = t.spaces ++ b ∷ raw in
    let joined = (value_ends value).0 in
    let spaced_is : t.spaced ≡ more ++ rest = simp (t.space_run.joined, joined, append_assoc) in (
      more,
      t.key_run.joined ∙ rw spaced_is (sym (append_assoc key more rest)),
      rw (append_assoc, ← spaced_is) (valued (takes_named name is t) is_sign value),
    )

pub named : {key at blanks bytes rest : List ℕ} {value : Option (List ℕ)} {lines : ℕ} {is_line : Bool}
    (name : List ℕ) → is_name name ≡ true → IsEntry key value lines at blanks bytes rest is_line
    → (more : List ℕ) × (bytes ≡ blanks ++ (key ++ more))
    × IsEntry name value lines at blanks (blanks ++ (name ++ more)) rest is_line
named {key = key} {at = at} {blanks = blanks} name is e =
    let (more, text_is, takes) = entry_named name is e.takes in
    let front_is : e.front ≡ key ++ more = append_cancel_right e.front (key ++ more) at text_is in (
      more ++ e.tail,
      e.joined ∙ ap (λ f. blanks ++ (f ++ e.tail)) front_is ∙ simp append_assoc,
      record {
        front = name ++ more;
        tail = e.tail;
        begins = rw append_assoc (begins_named name (more ++ at) is);
        takes = takes;
        left = e.left;
        is_tail = e.is_tail;
        joined = simp append_assoc;
      },
    )

pub valued_old : {parts : EntryParts} {piece : Piece}
    → IsEntryIn parts piece → IsValued None parts piece piece.bytes.now
valued_old {parts = parts} {piece = piece} e =
    let b = behind e.takes in
    let joined = e.joined ∙ ap (λ f. piece.blanks.now ++ (f ++ e.tail)) (front_is_behind parts piece e b) in
    record {
      raw = value_of parts.value;
      lines = parts.lines;
      at = parts.rest.now;
      value_is = refl;
      entry = e;
      shaped = record {
        between = b.between;
        bytes = value_bytes (value_of parts.value);
        tail = e.tail;
        left = e.left;
        bytes_are = joined;
        put_is = joined;
        is_valued = refl;
        how = tt;
      };
    }

pub named_old : {value : Option (List ℕ)} {parts : EntryParts} {piece : Piece} {put : List ℕ}
    → IsValued value parts piece put → IsNamed None value parts piece put
named_old v =
    record { raw = v.raw; lines = v.lines; at = v.at; value_is = v.value_is; entry = v.entry; shaped = v.shaped }

pub named_new : {value : Option (List ℕ)} {parts : EntryParts} {piece : Piece} {line : List ℕ}
    (name more : List ℕ)
    → is_name name ≡ true → IsValued value parts piece line
    → line ≡ piece.blanks.now ++ (parts.key.now ++ more)
    → IsNamed (Some name) value parts piece (piece.blanks.now ++ (name ++ more))
named_new {parts = parts} {piece = piece} name more is v line_is =
    let (m, joined, entry) = named name is v.entry in
    let blanks = piece.blanks.now in
    let key = parts.key.now in
    let same : m ≡ more =
    append_cancel_left (blanks ++ key) m more (simp append_assoc (sym joined ∙ line_is)) in
    let shape = v.shaped in
    let after = (shape.between ++ shape.bytes) ++ shape.tail in
    let more_is : more ≡ after =
    append_cancel_left (blanks ++ key) more after
    (simp append_assoc (sym line_is ∙ simp append_assoc at shape.put_is)) in
    record {
      raw = v.raw;
      lines = v.lines;
      at = v.at;
      value_is = v.value_is;
      entry = rw (sym same) entry;
      shaped = record {
        between = shape.between;
        bytes = shape.bytes;
        tail = shape.tail;
        left = shape.left;
        bytes_are = shape.bytes_are;
        put_is = rw more_is (simp append_assoc);
        is_valued = shape.is_valued;
        how = shape.how;
      };
    }

-- a change without a comment
pub no_comment : (value comment : Option (List ℕ)) → IsWritableComment value comment
    → (value ≡ None) ⊎ (comment ≡ None)
    → comment ≡ None
no_comment value None is either = refl
no_comment None (Some comment) is either = absurd is
no_comment (Some value) (Some comment) is (inl none) = cc
no_comment (Some value) (Some comment) is (inr none) = none

pub changed_plain : {change : Change} {parts : EntryParts} {piece : Piece} {put : List ℕ}
    → option_copied change.comment ≡ None
    → IsNamed (option_copied change.name) (option_copied change.value) parts piece put
    → IsChangedIn change parts piece put
changed_plain {change = change} {parts = parts} {piece = piece} none n =
    let shape = n.shaped in
    record {
      raw = n.raw;
      lines = n.lines;
      at = n.at;
      between = shape.between;
      tail = shape.tail;
      value_is = n.value_is;
      entry = n.entry;
      left = shape.left;
      bytes_are = shape.bytes_are;
      changes = (
        shape.bytes,
        shape.bytes ++ shape.tail,
        shape.is_valued,
        rw none refl,
        shape.put_is
            ∙ simp append_assoc,
      );
    }

-- the changes that are left
order_kept : (left : List Change) (index count : ℕ) → AreLater left index → AreInOrder index left count
    → AreInOrder (index + 1) left count
order_kept [] index count later order = tt
order_kept (change ∷ more) index count later (from, below, order) =
    let next : index + 1 ≤ change.entry = omega arith in (next, below, order)

order_done : (change : Change) (more : List Change) (index count : ℕ) → change.entry ≡ index
    → AreInOrder index (change ∷ more) count → AreInOrder (index + 1) more count
order_done change more index count is (from, below, order) =
    subst (λ i. AreInOrder (i + 1) more count) is order

none_left : (left : List Change) (count : ℕ) → left ≢ [] → AreInOrder count left count → ⊥
none_left [] count some order = some refl
none_left (change ∷ more) count some (from, below, order) = omega arith

pub some_after : {A : Type 0} (count : ℕ) (xs : List A) → count < length xs → drop count xs ≢ []
some_after count xs more none =
    let size = simp length-drop at (ap (λ l. length l) none) in omega arith

one_longer : {A : Type 0} (xs : List A) (x : A) → length (xs ++ x ∷ []) ≡ length xs + 1
one_longer xs x = length-append xs (x ∷ [])

each_kept : {done : List Change} {old now : List Content} (h : Held) (section : Option Section)
    → ChangesEach done old now
    → ChangesEach done (old ++ contents_in h section) (now ++ contents_in h section)
each_kept (held.Entry parts) section each = spec.kept (content_of section parts) each
each_kept h section each = simp append-nil each

none_held : (h : Held) (section : Option Section) → ((parts : EntryParts) → h ≡ held.Entry parts → ⊥)
    → contents_in h section ≡ []
none_held (held.Entry parts) section other = absurd (other parts refl)
none_held h section other = refl

name_is : (name : Option (List ℕ)) (key : List ℕ)
    → MatchOption name (name_after name key ≡ key) (λ n. name_after name key ≡ n)
name_is None key = refl
name_is (Some name) key = refl

-- which changes are made, and which are left
has_either : (done left : List Change) (change : Change) → Has (done ++ left) change
    → Has done change ⊎ Has left change
has_either [] left change has = inr has
has_either (first ∷ done) left change ([], after, e) = inl ([], done, cc)
has_either (first ∷ done) left change (other ∷ before, after, e) =
    elim (has_either done left change (before, after, cc)) [
      | inl (front, back, is) ↦ inl (first ∷ front, back, ap (λ t. first ∷ t) is)
      | inr has ↦ inr has
    ]

no_empty : {A : Type 0} (before after : List A) (x : A) → before ++ x ∷ after ≡ [] → ⊥
no_empty [] after x e = cc
no_empty (y ∷ before) after x e = cc

has_split : {changes : List Change} (done left : List Change) (change : Change) → changes ≡ done ++ left
    → Has changes change
    → Has done change ⊎ Has left change
has_split done left change e has = has_either done left change (subst (λ c. Has c change) e has)

has_one : (change other : Change) → Has (change ∷ []) other → other ≡ change
has_one change other ([], after, e) = cc
has_one change other (first ∷ before, after, e) = absurd (no_empty before after other (cc))

has_none : (change : Change) → Has [] change → ⊥
has_none change (before, after, e) = no_empty before after change (sym e)

order_weaker : (from later : ℕ) (changes : List Change) (count : ℕ) → from ≤ later
    → AreInOrder later changes count
    → AreInOrder from changes count
order_weaker from later [] count below order = tt
order_weaker from later (change ∷ changes) count below (at, within, order) = (omega arith, within, order)

pub order_from : (from : ℕ) (changes : List Change) (count : ℕ) (change : Change)
    → AreInOrder from changes count
    → Has changes change → from ≤ change.entry
order_from from [] count change order has = absurd (has_none change has)
order_from from (first ∷ changes) count change (at, within, order) ([], after, e) =
    let same : change ≡ first = cc in rw same at
order_from from (first ∷ changes) count change (at, within, order) (other ∷ before, after, e) =
    let later = order_from (first.entry + 1) changes count change order (before, after, cc) in omega arith

pub changing_begins : (changes : List Change) (text : List ℕ) → AllByRecursion IsWritable changes
    → Changing changes text text changes [] 0
changing_begins changes text writable =
    record {
      front = [];
      done = [];
      old = [];
      now = [];
      section = None;
      joined = refl;
      passed = anywhere (holds_nothing None);
      passed_now = anywhere (holds_nothing None);
      split = refl;
      each = spec.none;
      index_is = refl;
      parts = [];
      cuts = cut_begins text;
      becomes = λ count order. cut.none;
      below = λ change has. absurd (has_none change has);
      ordered = λ count order. order;
      back = λ count within order. order;
      writable = writable;
      room = omega arith;
    }

-- a piece that stays
changing_stays : {changes left : List Change} {text rest new : List ℕ} {index : ℕ} (later : ℕ) (piece : Piece)
    (r : Changing changes text rest left new index) → IsPiece rest piece → length piece.rest.now < length rest
    → index ≤ later → later ≤ index + 1 → later ≡ length (r.old ++ contents_in piece.held r.section)
    → ((count : ℕ) → AreInOrder index left count → AreInOrder later left count)
    → ((part : Part) → IsPartOf piece.held piece.blanks.now piece.bytes.now piece.rest.now piece.is_line part
    → (count : ℕ) → AreInOrder 0 changes count → ¬ (NamesPart changes r.parts part))
    → Changing changes text piece.rest.now left (new ++ piece.bytes.now) later
changing_stays {changes = changes} {left = left} {text = text} {rest = rest} {new = new}
    {index = index} later piece r is shorter
    up next later_is ordered unnamed =
    let some = some_left rest piece.rest.now shorter in
    let m = cut_step piece r.cuts is shorter in
    let more = contents_in piece.held r.section in
    let count_is : index + length more ≡ later =
    ap (λ n. n + length more) r.index_is ∙ sym (length-append r.old more) ∙ sym later_is in
    let becomes : (count : ℕ) → AreInOrder 0 changes count
    → EachBecomes (ChangesPart changes) (r.parts ++ m.part ∷ []) (new ++ piece.bytes.now) =
    λ count order. rw m.part_is at
    (cut.next m.part (part_bytes m.part) (r.becomes count order)
    (spec.stays (unnamed m.part m.is_of count order))) in
    record {
      front = r.front ++ piece.bytes.now;
      done = r.done;
      old = r.old ++ more;
      now = r.now ++ more;
      section = section_after piece.held r.section;
      joined = joined_more text r.front rest piece.bytes.now piece.rest.now r.joined is.joined;
      passed = passed_join some r.passed (piece_passed piece is r.section);
      passed_now = passed_join some r.passed_now (piece_passed piece is r.section);
      split = r.split;
      each = each_kept piece.held r.section r.each;
      index_is = later_is;
      parts = r.parts ++ m.part ∷ [];
      cuts = rw count_is at m.cut;
      becomes = becomes;
      below = λ change has. let before = r.below change has in omega arith;
      ordered = λ count order. ordered count (r.ordered count order);
      back = λ count within order. r.back count (omega arith) (order_weaker index later left count up order);
      writable = r.writable;
      room = let room = r.room in omega arith;
    }

no_entry_named : (h : Held) (blanks bytes rest : List ℕ) (is_line : Bool) (part : Part)
    (changes : List Change) (before : List Part)
    → ((parts : EntryParts) → h ≡ held.Entry parts → ⊥) → IsPartOf h blanks bytes rest is_line part
    → ¬ (NamesPart changes before part)
no_entry_named (held.Header new) blanks bytes rest is_line part changes before other (inner, is) =
    λ names. rw is at names
no_entry_named (held.Entry parts) blanks bytes rest is_line part changes before other is =
    absurd (other parts refl)
no_entry_named h blanks bytes rest is_line part changes before other is = λ names. rw is at names

names_entry : (part : Part) (changes : List Change) (before : List Part) → NamesPart changes before part
    → (change : Change) × Has changes change × (change.entry ≡ entries_in before)
names_entry (cut.header blanks section inner) changes before names = absurd names
names_entry (cut.entry blanks key between value tail is_line) changes before names = names
names_entry (cut.line tail is_line) changes before names = absurd names

-- a piece that is no entry
pub changing_passes : {changes left : List Change} {text rest new : List ℕ} {index : ℕ} (piece : Piece)
    → Changing changes text rest left new index → IsPiece rest piece → length piece.rest.now < length rest
    → ((parts : EntryParts) → piece.held ≡ held.Entry parts → ⊥)
    → Changing changes text piece.rest.now left (new ++ piece.bytes.now) index
changing_passes {changes = changes} {index = index} piece r is shorter other =
    changing_stays index piece r is shorter (omega arith) (omega arith)
    (rw (none_held piece.held r.section other, append-nil) r.index_is) (λ count order. order)
    (λ part of count order. no_entry_named piece.held piece.blanks.now piece.bytes.now piece.rest.now piece.is_line part changes r.parts other of)

-- an entry that stays
pub changing_keeps : {changes left : List Change} {text rest new : List ℕ} {index : ℕ} (piece : Piece)
    (parts : EntryParts)
    → Changing changes text rest left new index → IsPiece rest piece → length piece.rest.now < length rest
    → piece.held ≡ held.Entry parts → AreLater left index
    → Changing changes text piece.rest.now left (new ++ piece.bytes.now) (index + 1)
changing_keeps {changes = changes} {left = left} {index = index} piece parts r is shorter entry later =
    changing_stays (index + 1) piece r is shorter (omega arith) (omega arith)
    (rw (entry, one_longer) (ap (λ i. i + 1) r.index_is))
    (λ count order. order_kept left index count later order)
    (λ part of count order names.
    let (change, has, at) = names_entry part changes r.parts names in
    let here : change.entry ≡ index = at ∙ r.cuts.counted in
    elim (has_split r.done left change r.split has) [
      | inl done ↦ let below = r.below change done in absurd (omega arith)
      | inr more ↦
          let above = order_from (index + 1) left count change (order_kept left index count later (r.ordered count order)) more in
          absurd (omega arith)
    ])

cut_held : {text rest : List ℕ} {section : Option Section} (index : ℕ) {all also : List Part} {h : Held}
    {parts : EntryParts}
    → IsCut text rest (section_after h section) (index + length (contents_in h section)) all
    → h ≡ held.Entry parts → all ≡ also
    → IsCut text rest section (index + 1) also
cut_held index c e same = rw (e, same) at c

-- an entry that changes
pub changing_changes : {changes left more : List Change} {change : Change} {text rest new put : List ℕ}
    {index : ℕ}
    (piece : Piece) (parts : EntryParts)
    → Changing changes text rest left new index → IsPiece rest piece → length piece.rest.now < length rest
    → piece.held ≡ held.Entry parts → left ≡ change ∷ more → change.entry ≡ index
    → IsChangedIn change parts piece put
    → Changing changes text piece.rest.now more (new ++ put) (index + 1)
changing_changes {changes = changes} {left = left} {more = more} {change = change} {text = text} {rest = rest}
    {new = new} {put = put} {index = index} piece parts r is shorter entry left_is due c =
    let some = some_left rest piece.rest.now shorter in
    let name = name_after (option_copied change.name) parts.key.now in
    let x = content_of r.section parts in
    let y : Content = (r.section, name, c.raw) in
    let made = rw entry at (piece_passed piece is r.section) in
    let made_now = entry_passed piece.blanks.now piece.is_line is.blank c.entry r.section in
    let split : changes ≡ r.done ++ change ∷ more = rw left_is at r.split in
    let m = cut_step piece r.cuts is shorter in
    let (inner, tail, part_is, left_of) = part_entry piece m.is_of entry in
    let (inners, tails) = one_entry_part piece parts c.between c.tail inner tail (sym c.left ∙ left_of)
    (sym c.bytes_are ∙ sym (rw part_is at m.part_is)) in
    let same : m.part ≡ entry_part piece parts c.between c.tail =
    part_is ∙ ap (λ i. entry_part piece parts i tail) (sym inners)
    ∙ ap (λ t. entry_part piece parts c.between t) (sym tails) in
    let named = due ∙ sym r.cuts.counted in
    record {
      front = r.front ++ piece.bytes.now;
      done = r.done ++ change ∷ [];
      old = r.old ++ x ∷ [];
      now = r.now ++ y ∷ [];
      section = r.section;
      joined = joined_more text r.front rest piece.bytes.now piece.rest.now r.joined is.joined;
      passed = passed_join some r.passed made;
      passed_now = passed_join some r.passed_now made_now;
      split = split ∙ sym (append_assoc r.done (change ∷ []) more);
      each = spec.changed change x y r.each (due
          ∙ r.index_is) (refl, name_is (option_copied change.name) parts.key.now, c.value_is);
      index_is = ap (λ i. i + 1) r.index_is ∙ sym (one_longer r.old x);
      parts = r.parts ++ entry_part piece parts c.between c.tail ∷ [];
      cuts = cut_held index m.cut entry (ap (λ p. r.parts ++ p ∷ []) same);
      becomes = λ count order. cut.next (entry_part piece parts c.between c.tail) put (r.becomes count order)
          (spec.changed change (r.done, more, split) named c.changes);
      below = λ other has. elim (has_either r.done (change ∷ []) other has) [
        | inl before ↦ let below = r.below other before in omega arith
        | inr one ↦ let is = ap (λ o. o.entry) (has_one change other one) in omega arith
      ];
      ordered = λ count order. order_done change more index count due (rw left_is at (r.ordered count order));
      back = λ count within order. r.back count (omega arith)
          (rw left_is (omega arith, omega arith, subst (λ i. AreInOrder (i + 1) more count) (sym due) order));
      writable = (rw left_is at r.writable).1;
      room = let room = r.room in omega arith;
    }

-- at the end of the text
pub each_changed : {changes left : List Change} {text rest new : List ℕ} {index : ℕ} {contents : List Content}
    → Changing changes text rest left new index → Ends None text contents
    → (rest ≡ []) ⊎ (¬ (IsRead rest)) → left ≡ [] → IsEachChanged changes text contents new
each_changed {left = left} {index = index} {contents = contents} r whole end none =
    let (rest_is, text_is, contents_are) = all_passed r.joined r.passed whole end in
    let done_is = sym (rw (none, append-nil) at r.split) in
    let count_is : index ≡ length contents = r.index_is ∙ ap (λ c. length c) contents_are in
    let ordered = r.back (length contents) (omega arith) (rw none tt) in
    let cuts = rw rest_is at r.cuts.cuts in
    record {
      now = r.now;
      ends = passed_ends rest_is r.passed_now;
      each = rw (contents_are, done_is) at r.each;
      ordered = ordered;
      parts = r.parts;
      cuts = rw append-nil at (cuts [] cut.ends);
      becomes = r.becomes (length contents) ordered;
    }

pub not_in_order : {changes left : List Change} {text rest new : List ℕ} {index : ℕ} {contents : List Content}
    → Changing changes text rest left new index → Ends None text contents
    → (rest ≡ []) ⊎ (¬ (IsRead rest)) → left ≢ [] → ¬ (AreInOrder 0 changes (length contents))
not_in_order {left = left} {index = index} {contents = contents} r whole end some = λ order.
    let (rest_is, text_is, contents_are) = all_passed r.joined r.passed whole end in
    let count_is : length contents ≡ index = sym (r.index_is ∙ ap (λ c. length c) contents_are) in
    none_left left index some (rw count_is at (r.ordered (length contents) order))
