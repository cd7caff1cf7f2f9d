-- Entries that get comments.
use Rattle.std.proofs.Common.{◌≡◌, ◌≢◌, ℕ, Bool, true, false, List, [], ◌∷◌, ◌++◌, Option, Some, None, refl}
use Rattle.std.proofs.Common.{sym, ap, ◌∙◌, subst, append_assoc, append-nil, arith, inl, inr, ◌⊎◌, true≢false}
use Rattle.std.proofs.Common.{option_copied, ◌==◌, length}
use Rattle.std.specs.List.{list_all}
use Rattle.std.specs.Char.{is_ascii_alphabetic}
use Rattle.std.proofs.lemmas.Bool.Decides.{nat_tests}
use Rattle.std.proofs.lemmas.List.{append_cancel_left, append_cancel_right}
use Rattle.std.proofs.lemmas.List.Folds.{list_all-append}
use Rattle.std.proofs.lemmas.Option.{same_Some}
use Rattle.config_edit.specs.declared.Change.{Change}
use Rattle.config_edit.specs.declared.piece.Piece.{Piece}
use Rattle.config_file.specs.declared.entry.EntryParts.{EntryParts}
use Rattle.config_file.specs.Bytes.{is_blank, is_space, is_comment_byte, is_plain, BeginsWithLetter}
use Rattle.config_file.specs.Header.{BeginsWithout}
use Rattle.config_file.specs.Runs.{Run}
use Rattle.config_file.specs.Value as value
use Rattle.config_file.specs.Value.{Ending, outside, at_backslash, Spells, SpellsValue, EndsValue, line_feeds}
use Rattle.config_file.specs.Value.{escape}
use Rattle.config_file.specs.File.{TakesEntry}
use Rattle.config_edit.specs.Edit as spec
use Rattle.config_edit.specs.Edit.{HasValue, PutsValue, ChangesValueTo, ChangesEntry}
use Rattle.config_edit.specs.Cut.{AreBlank, IsTail}
use Rattle.config_edit.specs.Edit.{WritesComment, IsEndOfLine, FeedsComment, PutsComment, name_after}
use Rattle.config_edit.specs.Cut.{value_bytes}
use Rattle.config_edit.specs.Cut.{present}
use Rattle.config_edit.specs.Reading.{HasHow, IsOpenEntry, entry_part, IsNamed, IsCommented, IsChangedIn}
use Rattle.config_edit.specs.Reading.{IsWritableName, IsWritableComment}
use Rattle.config_edit.specs.Reading.{IsEntry}
use Rattle.config_file.specs.Views.{value_of}
use Rattle.config_edit.proofs.Pieces.{first_blank, other_blanks, tail_ends}
use Rattle.config_edit.proofs.Changed.{space_blank, front_cut, gap_spaces, parts_blank, both_blank, gap_blank}
use Rattle.config_edit.proofs.Changed.{spells_between, spells_before, can_hold, with_value}
use Rattle.config_edit.proofs.Changed.{inside_is_not_outside, backslash_is_not_outside, tail_cut}
use Rattle.config_edit.proofs.EachEntry.{entry_named, begins_named}
use Rattle.config_edit.proofs.Closed.{goes_on_over, more_bytes}
use Rattle.config_file.proofs.OneValue.{before_backslash}
use Rattle.config_file.proofs.Spelled.{after_held, after_plain}
use Rattle.config_file.proofs.OneRun.{run_same}
use Rattle.config_file.proofs.LineEnds.{all_more, not_none, rest_none}

-- the first bytes and the rests of two texts that are the same
uncons : {b c : ℕ} {more rest : List ℕ} → b ∷ more ≡ c ∷ rest → (b ≡ c) × (more ≡ rest)
uncons e = ((cc), (cc))

-- the blanks at the end of a text stay behind a byte that is none
trail_within : (front : List ℕ) (x : ℕ) (more core blanks : List ℕ) → is_blank x ≡ false → AreBlank blanks
    → core ++ blanks ≡ front ++ x ∷ more → (inner : List ℕ) × (more ≡ inner ++ blanks)
    × (core ≡ front ++ x ∷ inner)
trail_within front x more [] blanks other all e =
    absurd (true≢false (sym (first_blank x more (parts_blank front (x ∷ more) (rw e at all)).1) ∙ other))
trail_within [] x more (c ∷ core) blanks other all e =
    let (same, left) = uncons e in
    (core, sym left, ap (λ b. b ∷ core) same)
trail_within (f ∷ front) x more (c ∷ core) blanks other all e =
    let (same, left) = uncons e in
    let (inner, more_is, core_is) = trail_within front x more core blanks other all left in
    (inner, more_is, cc)

-- a value without the blanks behind it
no_blank : (b c : ℕ) → is_blank b ≡ true → b ≡ c → is_blank c ≡ false → ⊥
no_blank b c is same other = true≢false (sym (subst (λ x. is_blank x ≡ true) same is) ∙ other)

no_escape : (e k : ℕ) → is_blank e ≡ true → escape e ≡ Some k → ⊥
no_escape e k is letter = grind (arith, nat_tests)

nothing_spelled : {w : ℕ → ℕ} {q : Bool} {so_far held text : List ℕ} {ending : Ending} (raw : List ℕ)
    → Spells w q so_far held raw text ending → AreBlank raw → ending ≡ outside → (q ≡ false) × (text ≡ so_far)
nothing_spelled [] value.ends_outside all e = (refl, refl)
nothing_spelled [] value.ends_inside all e = absurd (inside_is_not_outside e)
nothing_spelled {q = false} (b ∷ raw) s all e =
    nothing_spelled raw (after_held s (first_blank b raw all)) (other_blanks b raw all) e
nothing_spelled {q = true} (b ∷ raw) s all e =
    let other = λ (c : ℕ) (no_blank_is : is_blank c ≡ false) (is : b ≡ c). no_blank b c (first_blank b raw all) is no_blank_is in
    absurd (true≢false (nothing_spelled raw (after_plain s refl (other 34 refl) (other 92 refl))
    (other_blanks b raw all) e).0)

trimmed : {w : ℕ → ℕ} {q : Bool} {so_far held raw text : List ℕ} {ending : Ending} (core blanks : List ℕ)
    → AreBlank blanks → ending ≡ outside → raw ≡ core ++ blanks → Spells w q so_far held raw text ending
    → Spells w q so_far held core text outside
trimmed [] blanks all e joined s =
    let (q_is, text_is) = nothing_spelled blanks (rw joined at s) all e in
    rw (q_is, text_is) value.ends_outside
trimmed (c ∷ core) blanks all e joined value.ends_outside = cc
trimmed (c ∷ core) blanks all e joined value.ends_inside = absurd (inside_is_not_outside e)
trimmed (c ∷ core) blanks all e joined (value.ends_at_backslash is) = absurd (backslash_is_not_outside e)
trimmed (c ∷ core) blanks all e joined (value.quote is s) =
    let (same, left) = uncons joined in
    rw (← same) (value.quote is (trimmed core blanks all e left s))
trimmed (c ∷ core) blanks all e joined (value.blank is s) =
    let (same, left) = uncons joined in
    rw (← same) (value.blank is (trimmed core blanks all e left s))
trimmed (c ∷ core) blanks all e joined (value.plain is s) =
    let (same, left) = uncons joined in
    rw (← same) (value.plain is (trimmed core blanks all e left s))
trimmed (c ∷ []) blanks all e joined (value.escaped {e = l} {c = k} {raw = raw} is letter s) =
    absurd (no_escape l k (first_blank l raw (rw (← (uncons joined).1) at all)) letter)
trimmed (c ∷ d ∷ core) blanks all e joined (value.escaped is letter s) =
    let (same, more) = uncons joined in
    let (also, left) = uncons more in
    rw (← same, ← also) (value.escaped is letter (trimmed core blanks all e left s))
trimmed (c ∷ []) blanks all e joined (value.continued {e = l} {raw = raw} is line s) =
    absurd (no_blank l 10 (first_blank l raw (rw (← (uncons joined).1) at all)) line refl)
trimmed (c ∷ d ∷ core) blanks all e joined (value.continued is line s) =
    let (same, more) = uncons joined in
    let (also, left) = uncons more in
    rw (← same, ← also) (value.continued is line (trimmed core blanks all e left s))
trimmed (c ∷ []) blanks all e joined
    (value.continued_after_return {e = l} {f = m} {raw = raw} is return line s) =
    absurd (no_blank m 10 (first_blank m raw
    (other_blanks l (m ∷ raw) (rw (← (uncons joined).1) at all))) line refl)
trimmed (c ∷ d ∷ []) blanks all e joined
    (value.continued_after_return {e = l} {f = m} {raw = raw} is return line s) =
    absurd (no_blank m 10 (first_blank m raw (rw (← (uncons (uncons joined).1).1) at all)) line refl)
trimmed (c ∷ d ∷ g ∷ core) blanks all e joined (value.continued_after_return is return line s) =
    let (same, more) = uncons joined in
    let (also, others) = uncons more in
    let (third, left) = uncons others in
    rw (← same, ← also, ← third) (value.continued_after_return is return line
    (trimmed core blanks all e left s))

-- what is written
comment_behind : (front more : List ℕ) → list_all is_comment_byte (front ++ 35 ∷ more) ≡ true
    → list_all is_comment_byte more ≡ true
comment_behind [] more all = more_bytes 35 more all
comment_behind (b ∷ front) more all = comment_behind front more (more_bytes b (front ++ 35 ∷ more) all)

written_parts : {comment written : List ℕ} → list_all is_comment_byte comment ≡ true
    → WritesComment comment written
    → (blanks more : List ℕ) × (written ≡ blanks ++ 35 ∷ more) × AreBlank blanks
    × (list_all is_comment_byte more ≡ true)
written_parts all (spec.spaced b blanks more spaces) =
    let are_blank = all_more is_space is_blank space_blank (b ∷ blanks) spaces in
    (b ∷ blanks, more, refl, are_blank, comment_behind (b ∷ blanks) more all)
written_parts all (spec.signed {more = more}) = (32 ∷ [], more, refl, refl, more_bytes 35 more all)
written_parts all (spec.plain {comment = comment} other) = (32 ∷ [], 32 ∷ comment, refl, refl, all)

-- what the code writes before a comment
pub front_of_plain : {comment blanks rest : List ℕ} → Run is_space comment blanks rest → BeginsWithout 35 rest
    → WritesComment comment (32 ∷ 35 ∷ 32 ∷ comment)
front_of_plain {blanks = blanks} {rest = rest} run without = spec.plain (λ others more spaces joined.
    let (fronts, rests) = run_same is_space blanks others rest (35 ∷ more) run.pass spaces run.longest refl (sym run.joined ∙ joined) in
    subst (BeginsWithout 35) rests without refl)

pub front_of_signed : {comment blanks rest after : List ℕ} → Run is_space comment blanks rest
    → rest ≡ 35 ∷ after → blanks ≡ []
    → WritesComment comment (32 ∷ comment)
front_of_signed run sign none = rw (run.joined, none, sign) spec.signed

pub front_of_spaced : {comment blanks rest after : List ℕ} → Run is_space comment blanks rest
    → rest ≡ 35 ∷ after → blanks ≢ []
    → WritesComment comment comment
front_of_spaced {blanks = []} run sign some = absurd (some refl)
front_of_spaced {blanks = b ∷ blanks} {after = after} run sign some =
    rw (run.joined, sign) (spec.spaced b blanks after run.pass)

-- the comment and the line end of an entry
comment_tail : {bytes end rest : List ℕ} {is_line : Bool} (more : List ℕ) → list_all is_comment_byte more ≡ true
    → IsEndOfLine bytes is_line end → (is_line ≡ false → rest ≡ []) → IsTail (35 ∷ (more ++ end)) rest is_line
comment_tail more all spec.unended none =
    record {
      blanks = [];
      comment = 35
          ∷ more;
      are_blank = refl;
      is_comment = present refl all;
      ends =
          inr (refl, none refl, ap (λ m. 35 ∷ m) (append-nil more));
    }
comment_tail more all (spec.feed other) none =
    record {
      blanks = [];
      comment = 35
          ∷ more;
      are_blank = refl;
      is_comment = present refl all;
      ends = inl (refl, refl);
    }
comment_tail more all (spec.return_feed front) none =
    let both : list_all is_comment_byte (more ++ 13 ∷ []) ≡ true =
    rw (list_all-append is_comment_byte more (13 ∷ []), all) refl in
    record {
      blanks = [];
      comment = 35 ∷ (more ++ 13 ∷ []);
      are_blank = refl;
      is_comment = present refl both;
      ends = inl (refl, ap (λ m. 35 ∷ m) (sym (append_assoc more (13 ∷ []) (10 ∷ []))));
    }

-- an entry with another key, or with its own
pub named_takes : {key at : List ℕ} {was : Option (List ℕ)} {lines : ℕ} (name : Option (List ℕ))
    (between raw : List ℕ)
    → IsWritableName name → BeginsWithLetter ((key ++ (between ++ raw)) ++ at)
    → TakesEntry ((key ++ (between ++ raw)) ++ at) key was lines at
    → BeginsWithLetter ((name_after name key ++ (between ++ raw)) ++ at)
    × TakesEntry ((name_after name key ++ (between ++ raw)) ++ at) (name_after name key) was lines at
named_takes None between raw is begins takes = (begins, takes)
named_takes {key = key} {at = at} {was = was} {lines = lines} (Some name) between raw is begins takes =
    let (more, text_is, now) = entry_named name is takes in
    let same : more ≡ between ++ raw =
    append_cancel_left key more (between ++ raw)
    (sym (append_cancel_right (key ++ (between ++ raw)) (key ++ more) at text_is)) in
    (rw append_assoc (begins_named name ((between ++ raw) ++ at) is), rw same at now)

-- what the value is before a comment
record Before (value between key : List ℕ) (was : Option (List ℕ))
    (blanks core_all front bytes feed written_blanks : List ℕ) : Type 0 where
  core : List ℕ
  bytes_are : bytes ≡ core ++ blanks
  core_is : core_all ≡ front ++ (key ++ (between ++ core))
  feeds : FeedsComment was bytes feed
  raw : List ℕ
  spells : SpellsValue raw value outside
  takes : (at : List ℕ) → EndsValue at
      → TakesEntry ((key ++ (between ++ (core ++ (feed ++ written_blanks)))) ++ at) key (Some raw)
      (line_feeds raw) at
      × BeginsWithLetter ((key ++ (between ++ (core ++ (feed ++ written_blanks)))) ++ at)

-- what the bytes of a value spell now: they are closed, or the old ones before the end of the text
data Ends (value raw bytes feed : List ℕ) : Type 0 where
  as_closed : SpellsValue bytes value outside → feed ≡ [] → Ends value raw bytes feed
  as_open : SpellsValue bytes value at_backslash → bytes ≡ raw → feed ≡ 10 ∷ [] → Ends value raw bytes feed

feeds_of : {value raw bytes feed : List ℕ} → Ends value raw bytes feed → FeedsComment (Some raw) bytes feed
feeds_of (as_closed spells none) = rw none (spec.closed spells)
feeds_of (as_open spells same one) = rw (one, same) (spec.open_value (rw same at spells))

spelled_before : {value raw bytes feed : List ℕ} (core blanks written : List ℕ) → Ends value raw bytes feed
    → bytes ≡ core ++ blanks
    → AreBlank blanks → AreBlank written → SpellsValue (core ++ (feed ++ written)) value outside
spelled_before {value = value} core blanks written (as_closed spells none) joined all also =
    rw none (spells_before written also (trimmed core blanks all refl joined spells))
spelled_before {value = value} {bytes = bytes} core blanks written (as_open spells same one) joined all also =
    let (front, ends) = before_backslash spells in
    let (inner, inner_is, unused) = trail_within front 92 [] core blanks refl all (sym joined ∙ ends) in
    let nothing : blanks ≡ [] = rest_none inner blanks (sym inner_is) in
    let core_is : bytes ≡ core = joined ∙ ap (λ b. core ++ b) nothing ∙ append-nil core in
    let over : SpellsValue (bytes ++ 10 ∷ []) value outside = goes_on_over (10 ∷ []) [] (inl refl) (inl refl) refl spells in
    rw (one, ← core_is) (simp append_assoc at (spells_before written also over))

-- the new bytes of a value spell it
puts_spells : {value between tail raw bytes : List ℕ} → PutsValue value between tail (Some raw) bytes
    → SpellsValue bytes value outside
puts_spells (spec.in_place lead trail before core after s) = spells_between lead trail before after s.0.0
puts_spells {value = value} (spec.in_blanks {gap = gap} {spelling = spelling}
    {later = later} lead trail all parts is_gap s also) =
    let (before, after) = parts_blank lead trail all in
    simp append_assoc (simp append_assoc at
    (spells_between (lead ++ gap) (later ++ trail) (both_blank lead gap before (gap_blank is_gap))
    (both_blank later trail (gap_blank also) after) s.0.0))

-- whether a line end comes before the comment
abbrev IsFed : EntryParts → List ℕ → List ℕ → Type 0
IsFed parts value feed = (IsOpenEntry parts × HasValue (value_of parts.value) value × (feed ≡ 10 ∷ []))
    ⊎ (¬ (IsOpenEntry parts × HasValue (value_of parts.value) value) × (feed ≡ []))

ends_of : {value between tail raw bytes feed : List ℕ} (parts : EntryParts) → value_of parts.value ≡ Some raw
    → ChangesValueTo value between tail (Some raw) bytes → (HasValue (Some raw) value → HasHow parts value)
    → IsFed parts value feed → Ends value raw bytes feed
ends_of parts held (inr (other, puts)) how (inl (opened, has, one)) = absurd (other (rw held at has))
ends_of parts held (inr (other, puts)) how (inr (closed, none)) = as_closed (puts_spells puts) none
ends_of {raw = raw} {bytes = bytes} parts held (inl (has, same)) how fed =
    let (raw_too, held_too, ended) = how has in
    let raw_is : raw_too ≡ bytes = same_Some _ _ (sym held_too ∙ held) ∙ sym same in
    elim ended [
      | inl (spells, lines_are) ↦ elim fed [
        | inl (opened, also, one) ↦
            absurd (opened.2 (ap line_feeds (same_Some _ _ (sym opened.1 ∙ held_too)) ∙ sym lines_are))
        | inr (closed, none) ↦ as_closed (rw raw_is at spells) none
      ]
      | inr (spells, lines_are) ↦ elim fed [
        | inl (opened, also, one) ↦ as_open (rw raw_is at spells) same one
        | inr (closed, none) ↦
            let differs : line_feeds raw_too ≢ parts.lines = λ e. omega arith in
            absurd (closed ((raw_too, held_too, differs), rw held has))
      ]
    ]

module _ {value at key between core_all blanks front feed : List ℕ} {lines : ℕ} (written : List ℕ)
    (all : AreBlank blanks) (also : AreBlank written) where
  before_valued : {raw bytes : List ℕ} → core_all ++ blanks ≡ front ++ (key ++ (between ++ bytes))
      → BeginsWithLetter ((key ++ (between ++ raw)) ++ at)
      → TakesEntry ((key ++ (between ++ raw)) ++ at) key (Some raw) lines at
      → Ends value raw bytes feed → Before value between key (Some raw) blanks core_all front bytes feed written
  before_valued {raw = raw} {bytes = bytes} whole begins takes ends =
      let h = can_hold (key ++ (between ++ raw)) refl refl begins takes in
      let start_is : h.start ≡ key ++ between =
      append_cancel_right h.start (key ++ between) raw (sym h.joined ∙ sym (append_assoc key between raw)) in
      let before_is : key ++ between ≡ h.before ++ 61 ∷ [] = sym start_is ∙ h.start_is in
      let moved : (s : List ℕ) → front ++ (key ++ (between ++ s)) ≡ (front ++ h.before) ++ 61 ∷ s =
      λ s. ap (λ t. front ++ t) (sym (append_assoc key between s) ∙ ap (λ t. t ++ s) before_is)
      ∙ simp append_assoc in
      let (core, bytes_are, core_is) =
      trail_within (front ++ h.before) 61 bytes core_all blanks refl all (whole ∙ moved bytes) in
      let raw_now = core ++ (feed ++ written) in
      let spells = spelled_before core blanks written ends bytes_are all also in
      let text_is : h.start ++ raw_now ≡ key ++ (between ++ raw_now) = simp (start_is, append_assoc) in
      record {
        core = core;
        bytes_are = bytes_are;
        core_is = core_is ∙ sym (moved core);
        feeds = feeds_of ends;
        raw = raw_now;
        spells = spells;
        takes = λ at end.
            let (now, letter) = h.holds raw_now value at spells end in
            (rw text_is at now, rw text_is at letter);
      }

  before_alone : {bytes tail : List ℕ} → core_all ++ blanks ≡ front ++ (key ++ (between ++ bytes))
      → BeginsWithLetter ((key ++ (between ++ [])) ++ at)
      → TakesEntry ((key ++ (between ++ [])) ++ at) key None lines at
      → PutsValue value between tail None bytes → feed ≡ []
      → Before value between key None blanks core_all front bytes feed written
  before_alone whole begins takes (spec.behind_key {gap = gap} {spelling = spelling} is_gap s) none =
      let more = front ++ (key ++ (between ++ gap)) in
      let joined : core_all ++ blanks ≡ more ++ 61 ∷ 32 ∷ spelling = whole ∙ simp append_assoc in
      let (inner, inner_are, core_is) = trail_within more 61 (32 ∷ spelling) core_all blanks refl all joined in
      let spelled : SpellsValue (32 ∷ spelling) value outside =
      rw append-nil at (spells_between (32 ∷ []) [] refl refl s.0.0) in
      let raw_now = inner ++ written in
      let spells : SpellsValue raw_now value outside = spells_before written also (trimmed inner blanks all refl inner_are spelled) in
      let text_is : (at : List ℕ) → ((key ++ (between ++ [])) ++ gap) ++ 61 ∷ (raw_now ++ at)
      ≡ (key ++ (between ++ ((gap ++ 61 ∷ inner) ++ (feed ++ written)))) ++ at =
      λ at. rw (none, append-nil between) (simp append_assoc) in
      record {
        core = gap ++ 61 ∷ inner;
        bytes_are = ap (λ i. gap ++ 61 ∷ i) inner_are ∙ sym (append_assoc gap (61 ∷ inner) blanks);
        core_is = core_is ∙ simp append_assoc;
        feeds = rw none spec.behind_key;
        raw = raw_now;
        spells = spells;
        takes = λ at end.
            let (now, letter) = with_value (key ++ (between ++ [])) gap raw_now value {rest = at} refl refl begins takes (gap_spaces is_gap) spells end in
            (rw (text_is at) at now, rw (text_is at) at letter);
      }

  before_of : {bytes tail : List ℕ} (parts : EntryParts) (was : Option (List ℕ))
      → core_all ++ blanks ≡ front ++ (key ++ (between ++ bytes))
      → value_of parts.value ≡ was
      → BeginsWithLetter ((key ++ (between ++ value_bytes was)) ++ at)
      → TakesEntry ((key ++ (between ++ value_bytes was)) ++ at) key was lines at
      → ChangesValueTo value between tail was bytes → (HasValue was value → HasHow parts value)
      → IsFed parts value feed → Before value between key was blanks core_all front bytes feed written
  before_of parts None whole held begins takes (inl (has, same)) how feed_is = absurd has
  before_of parts None whole held begins takes (inr (other, puts)) how feed_is =
      before_alone whole begins takes puts (elim feed_is [
        | inl (opened, has, one) ↦ absurd (other (rw held at has))
        | inr (closed, none) ↦ none
      ])
  before_of parts (Some raw) whole held begins takes valued how feed_is =
      before_valued whole begins takes (ends_of parts held valued how feed_is)

put_joined : (blanks key between core feed written end : List ℕ)
    → (blanks ++ (key ++ (between ++ core))) ++ (feed ++ (written ++ end)) ≡ blanks
    ++ (key ++ (between ++ (core ++ (feed ++ (written ++ end)))))
put_joined blanks key between core feed written end = simp append_assoc

after_joined : (key between core feed spaces more end : List ℕ)
    → key ++ (between ++ (core ++ (feed ++ ((spaces ++ 35 ∷ more) ++ end))))
    ≡ (key ++ (between ++ (core ++ (feed ++ spaces)))) ++ 35 ∷ (more ++ end)
after_joined key between core feed spaces more end = simp append_assoc

-- the entry with its comment
pub changed_commented : {change : Change} {parts : EntryParts} {piece : Piece} {line put : List ℕ}
    (value comment : List ℕ)
    → option_copied change.value ≡ Some value → option_copied change.comment ≡ Some comment
    → list_all is_comment_byte comment ≡ true → IsWritableName (option_copied change.name)
    → IsEntry parts.key.now (value_of parts.value) parts.lines parts.rest.now piece.blanks.now piece.bytes.now piece.rest.now piece.is_line
    → IsNamed (option_copied change.name) (Some value) parts piece line
    → IsCommented value comment parts piece line put → IsChangedIn change parts piece put
changed_commented {change = change} {parts = parts} {piece = piece} {line = line}
    {put = put} value comment value_is comment_is all writable e n k =
    let s = n.shaped in
    let key = name_after (option_copied change.name) parts.key.now in
    let was = value_of parts.value in
    let blanks = piece.blanks.now in
    let rest = piece.rest.now in
    let old = parts.key.now ++ (s.between ++ value_bytes was) in
    let front_is : e.front ≡ old =
    append_cancel_left blanks e.front old
    (sym (front_cut e (blanks ++ old) s.tail (s.bytes_are
    ∙ sym (append_assoc blanks old s.tail)) (tail_cut e s.tail s.left))) in
    let (begins, takes) = named_takes (option_copied change.name) s.between (value_bytes was) writable
    (rw front_is at e.begins) (rw front_is at e.takes) in
    let tail_is : k.tail ≡ s.tail = append_cancel_right k.tail s.tail rest (sym k.left ∙ s.left) in
    let named = blanks ++ (key ++ (s.between ++ s.bytes)) in
    let whole : k.core ++ k.blanks ≡ named =
    append_cancel_right (k.core ++ k.blanks) named k.tail (sym k.line_is ∙ s.put_is
    ∙ sym (append_assoc blanks (key ++ (s.between ++ s.bytes)) s.tail) ∙ ap (λ t. named ++ t) (sym tail_is)) in
    let (spaces, more, written_is, spaces_are, more_are) = written_parts all k.is_written in
    let b : Before value s.between key was k.blanks k.core blanks s.bytes k.feed spaces =
    before_of spaces k.are_blank spaces_are parts was whole refl begins takes s.is_valued s.how k.feed_is in
    let at = 35 ∷ (more ++ (k.end ++ rest)) in
    let (takes_now, begins_now) = b.takes at (inr refl) in
    let front = key ++ (s.between ++ (b.core ++ (k.feed ++ spaces))) in
    let after = b.core ++ (k.feed ++ (k.written ++ k.end)) in
    let now = key ++ (s.between ++ after) in
    let put_is : put ≡ blanks ++ now =
    k.put_is ∙ ap (λ c. c ++ (k.feed ++ (k.written ++ k.end))) b.core_is
    ∙ put_joined blanks key s.between b.core k.feed k.written k.end in
    let after_is : now ≡ front ++ 35 ∷ (more ++ k.end) =
    ap (λ w. key ++ (s.between ++ (b.core ++ (k.feed ++ (w ++ k.end))))) written_is
    ∙ after_joined key s.between b.core k.feed spaces more k.end in
    let entry : IsEntry key (Some b.raw) (line_feeds b.raw) at blanks put rest piece.is_line =
    record {
      front = front;
      tail = 35 ∷ (more ++ k.end);
      begins = begins_now;
      takes = takes_now;
      left = ap (λ m. 35 ∷ m) (sym (append_assoc more k.end rest));
      is_tail = comment_tail more more_are k.is_end (λ off. (tail_ends off e.is_tail None 0).0);
      joined = put_is ∙ ap (λ x. blanks ++ x) after_is;
    } in
    let part = entry_part piece parts s.between s.tail in
    let puts : PutsComment comment part was s.bytes after =
    record {
      core = b.core;
      blanks = k.blanks;
      feed = k.feed;
      written = k.written;
      end = k.end;
      bytes_are = b.bytes_are;
      are_blank = k.are_blank;
      ends_core = λ m x is. k.ends_core (blanks ++ (key ++ (s.between ++ m))) x
          (b.core_is ∙ ap (λ c. blanks ++ (key ++ (s.between ++ c))) is ∙ simp append_assoc);
      feeds = b.feeds;
      is_written = k.is_written;
      is_end = rw s.bytes_are at k.is_end;
      after_is = refl;
    } in
    record {
      raw = Some b.raw;
      lines = line_feeds b.raw;
      at = at;
      between = s.between;
      tail = s.tail;
      value_is = rw value_is (outside, b.spells);
      entry = entry;
      left = s.left;
      bytes_are = s.bytes_are;
      changes = (s.bytes, after, rw value_is s.is_valued, rw comment_is puts, put_is);
    }

pub writable_comment : (given also : Option (List ℕ)) (value comment : List ℕ) → given ≡ Some value
    → also ≡ Some comment
    → IsWritableComment given also → list_all is_comment_byte comment ≡ true
writable_comment given also value comment e f is =
    rw (e, f) at is

-- a comment without a line end
pub run_is_all : {comment front rest : List ℕ} {empty : Bool} → Run is_comment_byte comment front rest
    → empty ≡ (length rest == 0) → empty ≡ list_all is_comment_byte comment
run_is_all {front = front} {rest = []} run is =
    is ∙ sym (ap (list_all is_comment_byte) (run.joined ∙ append-nil front) ∙ run.pass)
run_is_all {front = front} {rest = b ∷ rest} {empty = empty} run is =
    let off : empty ≡ false = grind (arith, nat_tests) in
    off ∙ sym (ap (list_all is_comment_byte) run.joined ∙ list_all-append is_comment_byte front (b ∷ rest)
    ∙ rw (run.pass, run.longest) refl)
