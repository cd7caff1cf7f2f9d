-- An edit of a text has one result.
use Rattle.std.proofs.Common.{◌≡◌, ◌≢◌, ℕ, ◌+◌, ◌<◌, ◌≤◌, Bool, true, false, List, [], ◌∷◌, ◌++◌, Option}
use Rattle.std.proofs.Common.{Some, None, length}
use Rattle.std.proofs.Common.{refl, sym, ap, ◌∙◌, subst, append_assoc, append-nil, arith, inl, inr, ◌⊎◌}
use Rattle.std.proofs.Common.{true≢false}
use Rattle.std.proofs.lemmas.List.{length-append}
use Rattle.config_file.specs.Bytes.{is_blank}
use Rattle.config_file.specs.Runs.{StopsRun}
use Rattle.config_file.specs.Key.{Key}
use Rattle.config_edit.specs.Edit as spec
use Rattle.config_edit.specs.Edit.{Content, HasNone, HasOne, IsOf, Without, SpaceIf, PartsBlanks, PutsValue}
use Rattle.config_edit.specs.Edit.{ChangesValueTo, GivesValue}
use Rattle.config_edit.specs.Edit.{ReplacesPart, ReplacesKey, ChangesKey, AddsKey, IsEndOfLine, LeavesEnd}
use Rattle.config_edit.specs.Edit.{IsCore, HasValue}
use Rattle.config_edit.specs.Edit.{content, HasContents, Edits, Sets, ReplacesAll, AddsOne, CanFollow}
use Rattle.config_edit.specs.Edit.{IsPlace, IsFeedAt, EndsParts}
use Rattle.config_edit.specs.Edit.{IsOpen, IsLastLineEnd, PutsLine, entry_line, FeedsComment, WritesComment}
use Rattle.config_edit.specs.Edit.{PutsComment}
use Rattle.config_edit.specs.Edit.{ChangesEntry, ChangesPart, ChangesEntries, NamesPart, AreInOrder, Has}
use Rattle.config_edit.specs.Edit.{name_after}
use Rattle.config_edit.specs.declared.Change.{Change}
use Rattle.config_edit.specs.Cut.{entries_in}
use Rattle.config_file.specs.Bytes.{is_space}
use Rattle.std.proofs.Common.{option_copied, MatchOption}
use Rattle.config_edit.proofs.Added.{one_ending}
use Rattle.config_edit.proofs.EachEntry.{order_from}
use Rattle.std.proofs.Common.{map}
use Rattle.std.specs.List.{list_all}
use Rattle.std.proofs.lemmas.Bool.{and_parts}
use Rattle.std.proofs.lemmas.List.Folds.{list_all-append}
use Rattle.std.proofs.lemmas.Option.{same_Some}
use Rattle.config_file.specs.Bytes.{is_comment_byte}
use Rattle.config_file.proofs.OneKey.{cut_same}
use Rattle.config_file.proofs.OneReading.{one_reading}
use Rattle.config_edit.proofs.CutLoops.{bytes_join}
use Rattle.config_edit.specs.Cut as cut
use Rattle.config_edit.specs.Cut.{parts_bytes, Part, Cuts, IsSplit, HasParts, BecomesParts, EachBecomes}
use Rattle.config_edit.specs.Cut.{AreBlank, value_bytes}
use Rattle.config_file.proofs.OneRun.{run_same}
use Rattle.config_file.specs.File.{after_mark}
use Rattle.config_edit.proofs.Cuts.{one_each, no_part, same_last}
use Rattle.config_edit.proofs.OnePart.{contents_once, end_once, line_end_once, lost_one, parts_once}
use Rattle.config_edit.proofs.Changed.{some_last, last_holds, parts_blank, last_of}

-- values
pub space_once : {Wanted : Type 0} {a b : List ℕ} → SpaceIf Wanted a → SpaceIf Wanted b → a ≡ b
space_once (spec.wanted is) (spec.wanted so) = refl
space_once (spec.wanted is) (spec.unwanted other) = absurd (other is)
space_once (spec.unwanted other) (spec.wanted is) = absurd (other is)
space_once (spec.unwanted other) (spec.unwanted also) = refl

blanks_once : {lead trail also left : List ℕ} → PartsBlanks lead trail → PartsBlanks also left
    → lead ++ trail ≡ also ++ left
    → (lead ≡ also) × (trail ≡ left)
blanks_once spec.none spec.none e = (refl, refl)
blanks_once spec.none spec.return e = absurd (cc)
blanks_once spec.none (spec.first other) e = absurd (cc)
blanks_once spec.return spec.none e = absurd (cc)
blanks_once spec.return spec.return e = (refl, refl)
blanks_once spec.return (spec.first other) e = absurd (other (cc, cc))
blanks_once (spec.first other) spec.none e = absurd (cc)
blanks_once (spec.first other) spec.return e = absurd (other (cc, cc))
blanks_once (spec.first other) (spec.first also) e = (cc, cc)

abbrev EndsSolid : List ℕ → Type 0
EndsSolid core = (more : List ℕ) (b : ℕ) → core ≡ more ++ b ∷ [] → is_blank b ≡ false

not_blank : (c : ℕ) (core : List ℕ) → EndsSolid (c ∷ core) → AreBlank (c ∷ core) → ⊥
not_blank c core last all = elim (some_last (c ∷ core)) [
  | inl none ↦ cc
  | inr (front, b, is) ↦ true≢false (sym (last_holds is_blank front b (subst AreBlank is all))
      ∙ last front b is)
]

trims_once : (core also trail left : List ℕ) → EndsSolid core → EndsSolid also → AreBlank trail → AreBlank left
    → core ++ trail ≡ also ++ left → (core ≡ also) × (trail ≡ left)
trims_once [] [] trail left last end all blank e = (refl, e)
trims_once [] (c ∷ also) trail left last end all blank e =
    absurd (not_blank c also end (parts_blank (c ∷ also) left (rw e at all)).0)
trims_once (c ∷ core) [] trail left last end all blank e =
    absurd (not_blank c core last (parts_blank (c ∷ core) trail (rw (sym e) at blank)).0)
trims_once (c ∷ core) (d ∷ also) trail left last end all blank e =
    let (cores, trails) = trims_once core also trail left
    (λ more b is. last (c ∷ more) b (ap (λ t. c ∷ t) is)) (λ more b is.
    end (d ∷ more) b (ap (λ t. d ∷ t) is)) all blank (cc) in
    (cc, trails)

solid_first : (core trail : List ℕ) → IsCore core → StopsRun is_blank (core ++ trail)
solid_first [] trail (some, first, last) = absurd (some refl)
solid_first (b ∷ core) trail (some, first, last) = first b core refl

solid_within : (lead core trail blanks : List ℕ) → IsCore core → lead ++ (core ++ trail) ≡ blanks
    → AreBlank blanks → ⊥
solid_within lead [] trail blanks (some, first, last) e all = some refl
solid_within lead (b ∷ core) trail blanks (some, first, last) e all =
    let (before, after) = parts_blank lead ((b ∷ core) ++ trail) (rw (sym e) at all) in
    not_blank b core last (parts_blank (b ∷ core) trail after).0

puts_once : {value between tail : List ℕ} {was also : Option (List ℕ)} {a b : List ℕ}
    → PutsValue value between tail was a → PutsValue value between tail also b → was ≡ also → a ≡ b
puts_once (spec.in_place {core = core} lead trail all is blank s)
    (spec.in_place {core = next} also left all_too so blank_too t) e =
    let whole : lead ++ (core ++ trail) ≡ also ++ (next ++ left) = same_Some _ _ e in
    let (leads, rests) = run_same is_blank lead also (core ++ trail) (next ++ left) all all_too (solid_first core trail is)
    (solid_first next left so) whole in
    let (cores, trails) = trims_once core next trail left is.2 so.2 blank blank_too rests in
    let spellings = s.1 ∙ sym t.1 in
    cc
puts_once (spec.in_place {core = core} lead trail all is blank s)
    (spec.in_blanks also left both parts gap t later) e =
    absurd (solid_within lead core trail (also ++ left) is (same_Some _ _ e) both)
puts_once (spec.in_place lead trail all is blank s) (spec.behind_key gap t) e = absurd (cc)
puts_once (spec.in_blanks also left both parts gap t later)
    (spec.in_place {core = core} lead trail all is blank s) e =
    absurd (solid_within lead core trail (also ++ left) is (sym (same_Some _ _ e)) both)
puts_once (spec.in_blanks lead trail all parts gap s later)
    (spec.in_blanks also left all_too parts_too gap_too t later_too) e =
    let (leads, trails) = blanks_once parts parts_too (same_Some _ _ e) in
    let gaps = space_once (rw leads at gap) gap_too in
    let laters = space_once (rw trails at later) later_too in
    let spellings = s.1 ∙ sym t.1 in
    cc
puts_once (spec.in_blanks lead trail all parts gap s later) (spec.behind_key gap_too t) e = absurd (cc)
puts_once (spec.behind_key gap s) (spec.in_place lead trail all is blank t) e = absurd (cc)
puts_once (spec.behind_key gap s) (spec.in_blanks lead trail all parts gap_too t later) e = absurd (cc)
puts_once (spec.behind_key gap s) (spec.behind_key gap_too t) e =
    let gaps = space_once gap gap_too in
    let spellings = s.1 ∙ sym t.1 in
    cc

pub value_once : {value between tail : List ℕ} {was : Option (List ℕ)} {a b : List ℕ}
    → ChangesValueTo value between tail was a → ChangesValueTo value between tail was b → a ≡ b
value_once (inl (has, is)) (inl (has_too, so)) = is ∙ sym so
value_once (inl (has, is)) (inr (other, puts)) = absurd (other has)
value_once (inr (other, puts)) (inl (has, is)) = absurd (other has)
value_once (inr (other, puts)) (inr (other_too, puts_too)) = puts_once puts puts_too refl

gives_once : (value : List ℕ) (part : Part) {a b : List ℕ} → GivesValue value part a → GivesValue value part b
    → a ≡ b
gives_once value (cut.header blanks section inner) first second = absurd first
gives_once value (cut.entry blanks key between was tail is_line) (bytes, is, put_is) (also, so, other_is) =
    put_is ∙ ap (λ x. blanks ++ ((key ++ (between ++ x)) ++ tail)) (value_once is so) ∙ sym other_is
gives_once value (cut.line tail is_line) first second = absurd first

replaces_once : {key : Key} {value : List ℕ} {last : ℕ} (before : List Part) (part : Part) (a b : List ℕ)
    → ReplacesPart key value last before part a → ReplacesPart key value last before part b → a ≡ b
replaces_once before part a b (spec.goes is below end) (spec.goes so below_too end_too) =
    end_once (cut.ends_in_header before) (cut.part_bytes part) (cut.ends_line part) end end_too
replaces_once before part a b (spec.goes is below end) (spec.gets so at gives) = absurd (omega arith)
replaces_once before part a b (spec.goes is below end) (spec.stays other) = absurd (other is)
replaces_once before part a b (spec.gets is at gives) (spec.goes so below end) = absurd (omega arith)
replaces_once {value = value} before part a b (spec.gets is at gives) (spec.gets so at_too gives_too) =
    gives_once value part gives gives_too
replaces_once before part a b (spec.gets is at gives) (spec.stays other) = absurd (other is)
replaces_once before part a b (spec.stays other) (spec.goes is below end) = absurd (other is)
replaces_once before part a b (spec.stays other) (spec.gets is at gives) = absurd (other is)
replaces_once before part a b (spec.stays other) (spec.stays also) = refl

-- texts
pub becomes_once : {May : List Part → Part → List ℕ → Type 0} {old a b : List ℕ}
    → ((before : List Part) (part : Part) (put other : List ℕ) → May before part put → May before part other
    → put ≡ other)
    → BecomesParts May old a → BecomesParts May old b → a ≡ b
becomes_once one (mark, parts, bytes, has, each, is) (also, others, more, has_too, each_too, so) =
    let (marks, same) = parts_once has has_too in
    let news = one_each one each each_too same in
    is ∙ ap (λ m. m ++ bytes) marks ∙ ap (λ n. also ++ n) news ∙ sym so

-- two cuts of a list
two_cuts : {A : Type 0} (before also after left : List A) (x y : A) → before ++ x ∷ after ≡ also ++ y ∷ left
    → ((before ≡ also) × (after ≡ left)) ⊎ ((mid : List A) × (after ≡ mid ++ y ∷ left))
    ⊎ ((mid : List A) × (left ≡ mid ++ x ∷ after))
two_cuts [] [] after left x y e = inl (refl, cc)
two_cuts [] (z ∷ also) after left x y e = inr (inl (also, cc))
two_cuts (z ∷ before) [] after left x y e = inr (inr (before, cc))
two_cuts (z ∷ before) (w ∷ also) after left x y e = elim (two_cuts before also after left x y (cc)) [
  | inl (same, lefts) ↦ inl (cc, lefts)
  | inr other ↦ inr other
]

last_once : {key : Key} (before also after left : List Content) (x y : Content)
    → before ++ x ∷ after ≡ also ++ y ∷ left
    → IsOf key x → IsOf key y → HasNone key after → HasNone key left → length before ≡ length also
last_once before also after left x y e of so nothing nothing_too =
    elim (two_cuts before also after left x y e) [
      | inl (same, lefts) ↦ ap (λ b. length b) same
      | inr (inl (mid, is)) ↦ let less = lost_one mid left y nothing is so in absurd (omega arith)
      | inr (inr (mid, is)) ↦ let less = lost_one mid after x nothing_too is of in absurd (omega arith)
    ]

pub replaces_key_once : {key : Key} {value old a b : List ℕ} {contents : List Content}
    → ReplacesKey key value old contents a → ReplacesKey key value old contents b → a ≡ b
replaces_key_once {key = key} {value = value} (now, has, r, becomes) (also, has_too, s, becomes_too) =
    let places = last_once r.before s.before r.after s.after r.x s.x (sym r.old_is ∙ s.old_is) r.is_of s.is_of r.last s.last in
    becomes_once (replaces_once {key = key} {value = value} {last = length s.before})
    (rw places at becomes) becomes_too

pub prefixes : {A : Type 0} (a b c d : List A) → a ++ b ≡ c ++ d
    → ((mid : List A) × (c ≡ a ++ mid) × (b ≡ mid ++ d)) ⊎ ((mid : List A) × (a ≡ c ++ mid) × (d ≡ mid ++ b))
prefixes [] b c d e = inl (c, refl, e)
prefixes (x ∷ a) b [] d e = inr (x ∷ a, refl, sym e)
prefixes (x ∷ a) b (y ∷ c) d e = elim (prefixes a b c d (cc)) [
  | inl (mid, is, so) ↦ inl (mid, cc, so)
  | inr (mid, is, so) ↦ inr (mid, cc, so)
]

-- a new entry
no_feed_in : (mid left : List ℕ) → list_all is_comment_byte (mid ++ 10 ∷ left) ≡ true → ⊥
no_feed_in mid left all =
    let (before, after) = and_parts (list_all is_comment_byte mid) (list_all is_comment_byte (10 ∷ left))
    (sym (list_all-append is_comment_byte mid (10 ∷ left)) ∙ all) in
    true≢false (sym after)

last_feed_once : {text a b : List ℕ} → IsLastLineEnd text (Some a) → IsLastLineEnd text (Some b) → a ≡ b
last_feed_once (front, back, is, none, end) (also, left, so, none_too, end_too) =
    elim (two_cuts front also back left 10 10 (sym is ∙ so)) [
      | inl (same, backs) ↦ line_end_once end end_too (ap (λ f. f ++ 10 ∷ []) same) refl
      | inr (inl (mid, e)) ↦ absurd (no_feed_in mid left (rw e at none))
      | inr (inr (mid, e)) ↦ absurd (no_feed_in mid back (rw e at none_too))
    ]

has_feed : {text a : List ℕ} → IsLastLineEnd text (Some a) → IsLastLineEnd text None → ⊥
has_feed (front, back, is, none, end) all = no_feed_in front back (rw is at all)

feed_once : {front text a b : List ℕ} → IsFeedAt front text a → IsFeedAt front text b
    → (list_all is_comment_byte text ≡ true
    → list_all is_comment_byte front ≡ true) → a ≡ b
feed_once (spec.of_front is) (spec.of_front so) within = last_feed_once is so
feed_once (spec.of_front is) (spec.of_text none so) within = absurd (has_feed is none)
feed_once (spec.of_front is) (spec.of_none none) within = absurd (has_feed is (within none))
feed_once (spec.of_text none is) (spec.of_front so) within = absurd (has_feed so none)
feed_once (spec.of_text none is) (spec.of_text also so) within = last_feed_once is so
feed_once (spec.of_text none is) (spec.of_none all) within = absurd (has_feed is all)
feed_once (spec.of_none all) (spec.of_front so) within = absurd (has_feed so (within all))
feed_once (spec.of_none all) (spec.of_text none so) within = absurd (has_feed so all)
feed_once (spec.of_none all) (spec.of_none also) within = refl

ends_parts_once : {feed a b : List ℕ} {parts also : List Part} → EndsParts feed parts a
    → EndsParts feed also b → parts ≡ also → a ≡ b
ends_parts_once spec.empty spec.empty e = refl
ends_parts_once spec.empty (spec.ended before last on) e = absurd (no_part before last e)
ends_parts_once spec.empty (spec.unended before last off other) e = absurd (no_part before last e)
ends_parts_once spec.empty (spec.open_entry before last off is) e = absurd (no_part before last e)
ends_parts_once (spec.ended before last on) spec.empty e = absurd (no_part before last (sym e))
ends_parts_once (spec.unended before last off other) spec.empty e = absurd (no_part before last (sym e))
ends_parts_once (spec.open_entry before last off is) spec.empty e = absurd (no_part before last (sym e))
ends_parts_once (spec.ended before last on) (spec.ended also next so) e = refl
ends_parts_once (spec.ended before last on) (spec.unended also next off other) e =
    let same = (same_last before also last next e).1 in absurd (true≢false (sym (rw same at on) ∙ off))
ends_parts_once (spec.ended before last on) (spec.open_entry also next off is) e =
    let same = (same_last before also last next e).1 in absurd (true≢false (sym (rw same at on) ∙ off))
ends_parts_once (spec.unended before last off other) (spec.ended also next on) e =
    let same = (same_last before also last next e).1 in absurd (true≢false (sym on ∙ rw same at off))
ends_parts_once (spec.open_entry before last off is) (spec.ended also next on) e =
    let same = (same_last before also last next e).1 in absurd (true≢false (sym on ∙ rw same at off))
ends_parts_once (spec.unended before last off other) (spec.unended also next so none) e = refl
ends_parts_once (spec.unended before last off other) (spec.open_entry also next so is) e =
    let same = (same_last before also last next e).1 in absurd (other (subst IsOpen (sym same) is))
ends_parts_once (spec.open_entry before last off is) (spec.unended also next so other) e =
    let same = (same_last before also last next e).1 in absurd (other (subst IsOpen same is))
ends_parts_once (spec.open_entry before last off is) (spec.open_entry also next so also_open) e = refl

place_once : {key : Key} {header feed headed other line puts : List ℕ} {front back also left : List Part}
    → IsPlace key header feed front back headed → IsPlace key other line also left puts
    → front ++ back ≡ also ++ left
    → (front ≡ also) × (back ≡ left)
place_once (spec.inside {front = front} {back = back} can last)
    (spec.inside {front = also} {back = left} can_too last_too) e =
    elim (prefixes front back also left e) [
      | inl (mid, is, so) ↦
          let none = last mid left so (rw is at can_too) in
          (sym (append-nil front) ∙ ap (λ m. front ++ m) (sym none) ∙ sym is, so ∙ ap (λ m. m ++ left) none)
      | inr (mid, is, so) ↦
          let none = last_too mid back so (rw is at can) in
          (is ∙ ap (λ m. also ++ m) none ∙ append-nil also, sym (so ∙ ap (λ m. m ++ back) none))
    ]
place_once (spec.inside {front = front} {back = back} can last) (spec.at_end {parts = parts} never written) e =
    absurd (never front back (sym (append-nil parts) ∙ sym e) can)
place_once (spec.at_end {parts = parts} never written) (spec.inside {front = also} {back = left} can last) e =
    absurd (never also left (sym (append-nil parts) ∙ e) can)
place_once (spec.at_end {parts = parts} never written) (spec.at_end {parts = also} never_too written_too) e =
    (sym (append-nil parts) ∙ e ∙ append-nil also, refl)

headed_once : {key : Key} {header feed headed other line puts : List ℕ} {front back also left : List Part}
    → IsPlace key header feed front back headed → IsPlace key other line also left puts
    → front ++ back ≡ also ++ left
    → feed ≡ line → headed ≡ puts
headed_once (spec.inside can last) (spec.inside can_too last_too) e feeds = refl
headed_once (spec.inside {front = front} {back = back} can last)
    (spec.at_end {parts = parts} never written) e feeds =
    absurd (never front back (sym (append-nil parts) ∙ sym e) can)
headed_once (spec.at_end {parts = parts} never written)
    (spec.inside {front = also} {back = left} can last) e feeds =
    absurd (never also left (sym (append-nil parts) ∙ e) can)
headed_once (spec.at_end never written) (spec.at_end never_too written_too) e feeds =
    let headers = written.1 ∙ sym written_too.1 in cc

front_within : (front back : List Part) → list_all is_comment_byte (parts_bytes (front ++ back)) ≡ true
    → list_all is_comment_byte (parts_bytes front) ≡ true
front_within front back all =
    (and_parts (list_all is_comment_byte (parts_bytes front)) (list_all is_comment_byte (parts_bytes back))
    (sym (list_all-append is_comment_byte (parts_bytes front) (parts_bytes back))
    ∙ ap (list_all is_comment_byte) (sym (bytes_join front back)) ∙ all)).0

line_same : (name : List ℕ) {a b mark other ends endings headed puts spelling spells feed line : List ℕ}
    {front back also left : List Part}
    → a ≡ mark ++ (parts_bytes front
    ++ (ends ++ (headed ++ (entry_line name spelling feed ++ parts_bytes back))))
    → b ≡ other ++ (parts_bytes also
    ++ (endings ++ (puts ++ (entry_line name spells line ++ parts_bytes left))))
    → mark ≡ other → front ≡ also → back ≡ left → feed ≡ line → ends ≡ endings → headed ≡ puts
    → spelling ≡ spells → a ≡ b
line_same name first second marks fronts backs feeds ends heads spellings =
    first ∙ sym (second ∙ rw (← marks, ← fronts, ← backs, ← feeds, ← ends, ← heads, ← spellings) refl)

puts_line_once : {key : Key} {value old a b : List ℕ} → PutsLine key value old a → PutsLine key value old b
    → a ≡ b
puts_line_once {key = key} {old = old} p q =
    let (marks, parts) = parts_once p.has_parts q.has_parts in
    let (fronts, backs) = place_once p.is_place q.is_place parts in
    let feeds = feed_once (rw (fronts, backs) at p.is_feed) q.is_feed (front_within q.front q.back) in
    let headeds = headed_once p.is_place q.is_place parts feeds in
    let endings = ends_parts_once (rw feeds at p.are_ends) q.are_ends fronts in
    let spellings = p.spells.1 ∙ sym q.spells.1 in
    line_same key.name p.new_is q.new_is marks fronts backs feeds endings headeds spellings

pub added_once : {key : Key} {value old a b : List ℕ} {contents : List Content}
    → AddsKey key value old contents a
    → AddsKey key value old contents b → a ≡ b
added_once (now, has, adds, puts) (also, has_too, adds_too, puts_too) = puts_line_once puts puts_too

-- edits
edits_once : (Makes : Key → List Content → List ℕ → Type 0) {name old a b : List ℕ}
    → ((key : Key) (contents : List Content) (x y : List ℕ) → Makes key contents x → Makes key contents y
    → x ≡ y)
    → Edits Makes name old a → Edits Makes name old b → a ≡ b
edits_once Makes {a = a} {b = b} one (key, is, contents, has, makes) (other, so, others, has_too, makes_too) =
    let keys = cut_same is.cut so.cut in
    let same = contents_once has has_too in
    one other others a b (rw (keys, same) at makes) makes_too

none_and_one : {key : Key} {contents : List Content} (before after : List Content) (x : Content)
    → contents ≡ before ++ x ∷ after
    → IsOf key x → HasNone key contents → ⊥
none_and_one before after x e of nothing = let less = lost_one before after x nothing e of in omega arith

set_once : {key : Key} {value old x y : List ℕ} {contents : List Content}
    → ChangesKey key value old contents x ⊎ (HasNone key contents × AddsKey key value old contents x)
    → ChangesKey key value old contents y ⊎ (HasNone key contents × AddsKey key value old contents y) → x ≡ y
set_once (inl (one, first)) (inl (also, second)) = replaces_key_once first second
set_once (inl (one, (now, has, r, more))) (inr (nothing, adds)) =
    absurd (none_and_one r.before r.after r.x r.old_is r.is_of nothing)
set_once (inr (nothing, adds)) (inl (one, (now, has, r, more))) =
    absurd (none_and_one r.before r.after r.x r.old_is r.is_of nothing)
set_once (inr (nothing, first)) (inr (also, second)) = added_once first second

all_once : {key : Key} {value old x y : List ℕ} {contents : List Content}
    → ReplacesKey key value old contents x ⊎ (HasNone key contents × AddsKey key value old contents x)
    → ReplacesKey key value old contents y ⊎ (HasNone key contents × AddsKey key value old contents y) → x ≡ y
all_once (inl first) (inl second) = replaces_key_once first second
all_once (inl (now, has, r, more)) (inr (nothing, adds)) =
    absurd (none_and_one r.before r.after r.x r.old_is r.is_of nothing)
all_once (inr (nothing, adds)) (inl (now, has, r, more)) =
    absurd (none_and_one r.before r.after r.x r.old_is r.is_of nothing)
all_once (inr (nothing, first)) (inr (also, second)) = added_once first second

pub one_set : (name value old new other : List ℕ) → Sets name value old new → Sets name value old other
    → new ≡ other
one_set name value old new other first second =
    edits_once (λ key contents new. ChangesKey key value old contents new
    ⊎ (HasNone key contents × AddsKey key value old contents new))
    (λ key contents x y makes also.
    set_once {key = key} {value = value} {old = old} {contents = contents} makes also) first second

pub one_replaced : (name value old new other : List ℕ) → ReplacesAll name value old new
    → ReplacesAll name value old other → new ≡ other
one_replaced name value old new other first second =
    edits_once (λ key contents new. ReplacesKey key value old contents new
    ⊎ (HasNone key contents × AddsKey key value old contents new))
    (λ key contents x y makes also.
    all_once {key = key} {value = value} {old = old} {contents = contents} makes also) first second

pub one_added : (name value old new other : List ℕ) → AddsOne name value old new
    → AddsOne name value old other → new ≡ other
one_added name value old new other first second =
    edits_once (λ key contents new. AddsKey key value old contents new)
    (λ key contents x y makes also.
    added_once {key = key} {value = value} {old = old} {contents = contents} makes also) first second

-- changes
feeds_once : {was also : Option (List ℕ)} {bytes a b : List ℕ} → FeedsComment was bytes a
    → FeedsComment also bytes b → was ≡ also
    → a ≡ b
feeds_once (spec.closed s) (spec.closed t) e = refl
feeds_once (spec.closed s) (spec.open_value t) e = absurd (one_ending s t)
feeds_once (spec.closed s) spec.behind_key e = refl
feeds_once (spec.open_value t) (spec.closed s) e = absurd (one_ending s t)
feeds_once (spec.open_value s) (spec.open_value t) e = refl
feeds_once (spec.open_value s) spec.behind_key e = absurd (cc)
feeds_once spec.behind_key (spec.closed s) e = refl
feeds_once spec.behind_key (spec.open_value t) e = absurd (cc)
feeds_once spec.behind_key spec.behind_key e = refl

no_sign : (b : ℕ) (blanks : List ℕ) → list_all is_space (b ∷ blanks) ≡ true → b ≡ 35 → ⊥
no_sign b blanks all is =
    let first = (and_parts (is_space b) (list_all is_space blanks) all).0 in true≢false (sym (rw is at first))

written_once : {comment also a b : List ℕ} → WritesComment comment a → WritesComment also b → comment ≡ also
    → a ≡ b
written_once (spec.spaced c blanks more all) (spec.spaced d spaces left too) e = e
written_once (spec.spaced c blanks more all) spec.signed e = absurd (no_sign c blanks all (cc))
written_once (spec.spaced c blanks more all) (spec.plain other) e = absurd (other (c ∷ blanks) more all (sym e))
written_once spec.signed (spec.spaced c blanks more all) e = absurd (no_sign c blanks all (cc))
written_once spec.signed spec.signed e = cc
written_once (spec.signed {more = more}) (spec.plain other) e = absurd (other [] more refl (sym e))
written_once (spec.plain other) (spec.spaced c blanks more all) e = absurd (other (c ∷ blanks) more all e)
written_once (spec.plain other) (spec.signed {more = more}) e = absurd (other [] more refl e)
written_once (spec.plain other) (spec.plain also) e = cc

comment_once : {comment bytes a b : List ℕ} {part : Part} {was : Option (List ℕ)}
    → PutsComment comment part was bytes a
    → PutsComment comment part was bytes b → a ≡ b
comment_once p q =
    let (cores, blanks) = trims_once p.core q.core p.blanks q.blanks p.ends_core q.ends_core p.are_blank q.are_blank
    (sym p.bytes_are ∙ q.bytes_are) in
    let feeds = feeds_once p.feeds q.feeds refl in
    let written = written_once p.is_written q.is_written refl in
    let ends = line_end_once p.is_end q.is_end refl refl in
    p.after_is ∙ sym (q.after_is ∙ rw (← cores, ← feeds, ← written, ← ends) refl)

bytes_once : {a b : List ℕ} (between tail : List ℕ) (was value : Option (List ℕ))
    → MatchOption value (a ≡ value_bytes was) (λ v. ChangesValueTo v between tail was a)
    → MatchOption value (b ≡ value_bytes was) (λ v. ChangesValueTo v between tail was b) → a ≡ b
bytes_once between tail was None first second = first ∙ sym second
bytes_once between tail was (Some v) first second = value_once first second

after_once : {a b : List ℕ} (tail bytes : List ℕ) (part : Part) (was comment : Option (List ℕ))
    → MatchOption comment (a ≡ bytes ++ tail) (λ c. PutsComment c part was bytes a)
    → MatchOption comment (b ≡ bytes ++ tail) (λ c. PutsComment c part was bytes b) → a ≡ b
after_once tail bytes part was None first second = first ∙ sym second
after_once tail bytes part was (Some c) first second = comment_once first second

changes_once : (change : Change) (part : Part) {a b : List ℕ} → ChangesEntry change part a
    → ChangesEntry change part b → a ≡ b
changes_once change (cut.header blanks section inner) first second = absurd first
changes_once change (cut.line tail is_line) first second = absurd first
changes_once change (cut.entry blanks key between was tail is_line) (bytes, after, is, comment, put_is) (
  also,
  left,
  so,
  other,
  now_is,
) =
    let same = bytes_once between tail was (option_copied change.value) is so in
    let afters = after_once tail also (cut.entry blanks key between was tail is_line) was (option_copied change.comment) (rw same at comment) other in
    put_is ∙ ap (λ x. blanks ++ (name_after (option_copied change.name) key ++ (between ++ x))) afters
    ∙ sym now_is

head_of : {A : Type 0} {x y : A} {xs ys : List A} → x ∷ xs ≡ y ∷ ys → x ≡ y
head_of e = cc

order_apart : (from : ℕ) (changes : List Change) (count : ℕ) (first second : Change)
    → AreInOrder from changes count
    → Has changes first → Has changes second → first.entry ≡ second.entry → first ≡ second
order_apart from [] count first second order ([], after, e) has same = absurd (cc)
order_apart from [] count first second order (x ∷ before, after, e) has same = absurd (cc)
order_apart from (x ∷ changes) count first second (at, within, order) ([], after, e) ([], left, f) same = cc
order_apart from (x ∷ changes) count first second (at, within, order) ([], after, e) (
  y ∷ before,
  left,
  f,
) same =
    let above = order_from (x.entry + 1) changes count second order (before, left, cc) in
    let is : first.entry ≡ x.entry = ap (λ c. c.entry) (sym (head_of e)) in absurd (omega arith)
order_apart from (x ∷ changes) count first second (at, within, order) (y ∷ before, after, e) (
  [],
  left,
  f,
) same =
    let above = order_from (x.entry + 1) changes count first order (before, after, cc) in
    let is : second.entry ≡ x.entry = ap (λ c. c.entry) (sym (head_of f)) in absurd (omega arith)
order_apart from (x ∷ changes) count first second (at, within, order) (y ∷ before, after, e) (
  z ∷ also,
  left,
  f,
) same =
    order_apart (x.entry + 1) changes count first second order (before, after, cc) (also, left, cc) same

names_part : {changes : List Change} (before : List Part) (change : Change) (part : Part) (put : List ℕ)
    → Has changes change
    → change.entry ≡ entries_in before → ChangesEntry change part put → NamesPart changes before part
names_part before change (cut.header blanks section inner) put has at changes = changes
names_part before change (cut.line tail is_line) put has at changes = changes
names_part before change (cut.entry blanks key between was tail is_line) put has at changes = (change, has, at)

change_once : {changes : List Change} (count : ℕ) → AreInOrder 0 changes count
    → (before : List Part) (part : Part) (a b : List ℕ)
    → ChangesPart changes before part a → ChangesPart changes before part b → a ≡ b
change_once {changes = changes} count order before part a b (spec.changed c has at is)
    (spec.changed d has_too at_too so) =
    let same = order_apart 0 changes count c d order has has_too (at ∙ sym at_too) in
    changes_once d part (rw same at is) so
change_once count order before part a b (spec.changed c has at is) (spec.stays other) =
    absurd (other (names_part before c part a has at is))
change_once count order before part a b (spec.stays other) (spec.changed c has at is) =
    absurd (other (names_part before c part b has at is))
change_once count order before part a b (spec.stays other) (spec.stays also) = refl

pub one_changed : (changes : List Change) (old new other : List ℕ) → ChangesEntries changes old new
    → ChangesEntries changes old other
    → new ≡ other
one_changed changes old new other (contents, has, order, now, has_now, each, becomes) (
  also,
  has_too,
  order_too,
  so,
  has_so,
  each_too,
  becomes_too,
) =
    becomes_once (change_once (length contents) order) becomes becomes_too
