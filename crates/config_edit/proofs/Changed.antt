-- Values that stand in the place of others.
use Rattle.std.proofs.Common.{◌≡◌, ◌≢◌, ℕ, ◌+◌, Bool, true, false, List, [], ◌∷◌, ◌++◌, Option, Some, None}
use Rattle.std.proofs.Common.{refl, sym, ap, ◌∙◌, subst, append_assoc, append-nil, arith, inl, inr, ◌⊎◌, ◌↔◌}
use Rattle.std.proofs.Common.{IsTrue, true≢false, length}
use Rattle.std.specs.List.{list_all}
use Rattle.std.specs.Char.{is_ascii_alphabetic}
use Rattle.std.proofs.lemmas.Bool.{and_parts}
use Rattle.std.proofs.lemmas.Bool.Decides.{nat_tests}
use Rattle.std.proofs.lemmas.List.{append_cancel_right}
use Rattle.std.proofs.lemmas.List.Folds.{list_all-append}
use Rattle.config_file.specs.declared.entry.EntryParts.{EntryParts}
use Rattle.config_edit.specs.declared.piece.Piece.{Piece}
use Rattle.config_file.specs.Bytes.{is_blank, is_space, is_key_byte, IsAtLineEnd, BeginsWithLetter}
use Rattle.config_file.specs.Runs.{Run, StopsRun}
use Rattle.config_file.specs.Value as value
use Rattle.config_file.specs.Value.{Ending, outside, inside, at_backslash, Spells, SpellsValue, itself}
use Rattle.config_file.specs.Value.{TakesValue, closed, open_end, EndsValue, line_feeds}
use Rattle.config_file.specs.File.{TakesKey, TakesEntry, alone, valued}
use Rattle.config_edit.specs.Edit as spec
use Rattle.config_edit.specs.Edit.{HasValue, SpaceIf, PartsBlanks, BeginsWithSign, PutsValue, ChangesValueTo}
use Rattle.config_edit.specs.Cut.{value_bytes, AreBlank, IsTail}
use Rattle.config_edit.specs.Cut.{IsComment, absent, present}
use Rattle.config_edit.specs.Reading.{HasHow, IsPutIn, IsShaped, IsValued, entry_part, space_if}
use Rattle.config_edit.specs.Reading.{IsEntry, IsLineEnd}
use Rattle.config_file.specs.Reading.Spellings.{is_spellable}
use Rattle.config_file.specs.Spelling.{git_spelled}
use Rattle.config_file.specs.Views.{value_of}
use Rattle.config_edit.proofs.Pieces.{letter_before, key_before_value, key_joined, first_blank, other_blanks}
use Rattle.config_file.proofs.Spellings.{git_spelling}
use Rattle.config_file.proofs.SpelledHeaders.{letter_is_key_byte}

-- blanks around the bytes of a value change nothing
held_free : {w : ℕ → ℕ} {held raw text : List ℕ} {ending : Ending} → Spells w false [] held raw text ending
    → (other : List ℕ) → Spells w false [] other raw text ending
held_free value.ends_outside other = value.ends_outside
held_free (value.ends_at_backslash is) other = value.ends_at_backslash is
held_free (value.quote is s) other = value.quote is s
held_free (value.escaped is letter s) other = value.escaped is letter s
held_free (value.continued is line s) other = value.continued is line s
held_free (value.continued_after_return is return line s) other =
    value.continued_after_return is return line s
held_free {w = w} (value.blank {b = b} is s) other = value.blank is (held_free s (other ++ w b ∷ []))
held_free (value.plain is s) other = value.plain is s

after_lead : {w : ℕ → ℕ} {held raw text : List ℕ} {ending : Ending} (lead : List ℕ) → AreBlank lead
    → Spells w false [] held raw text ending → (other : List ℕ)
    → Spells w false [] other (lead ++ raw) text ending
after_lead [] all s other = held_free s other
after_lead {w = w} (b ∷ lead) all s other =
    value.blank (first_blank b lead all) (after_lead lead (other_blanks b lead all) s (other ++ w b ∷ []))

blanks_end : {w : ℕ → ℕ} {text held : List ℕ} (trail : List ℕ) → AreBlank trail
    → Spells w false text held trail text outside
blanks_end [] all = value.ends_outside
blanks_end (b ∷ trail) all = value.blank (first_blank b trail all) (blanks_end trail (other_blanks b trail all))

pub inside_is_not_outside : inside ≡ outside → ⊥
inside_is_not_outside e = cc

pub backslash_is_not_outside : at_backslash ≡ outside → ⊥
backslash_is_not_outside e = cc

-- what can follow the bytes of a value that end so, and add nothing to it
abbrev pub AddNothing : Ending → List ℕ → Type 0
AddNothing outside more = AreBlank more
AddNothing inside more = ⊥
AddNothing at_backslash more =
    (feed blanks : List ℕ) × (more ≡ feed ++ blanks) × IsLineEnd feed × AreBlank blanks

pub spells_more : {w : ℕ → ℕ} {q : Bool} {held raw text so_far : List ℕ} {ending : Ending} (more : List ℕ)
    → Spells w q so_far held raw text ending → AddNothing ending more
    → Spells w q so_far held (raw ++ more) text outside
spells_more more value.ends_outside all = blanks_end more all
spells_more more value.ends_inside never = absurd never
spells_more more (value.ends_at_backslash b) (feed, blanks, more_is, inl is, all) =
    rw (more_is, is) (value.continued b refl (blanks_end blanks all))
spells_more more (value.ends_at_backslash b) (feed, blanks, more_is, inr is, all) =
    rw (more_is, is) (value.continued_after_return b refl refl (blanks_end blanks all))
spells_more more (value.quote is s) adds = value.quote is (spells_more more s adds)
spells_more more (value.escaped is letter s) adds = value.escaped is letter (spells_more more s adds)
spells_more more (value.continued is line s) adds = value.continued is line (spells_more more s adds)
spells_more more (value.continued_after_return is return line s) adds =
    value.continued_after_return is return line (spells_more more s adds)
spells_more more (value.blank is s) adds = value.blank is (spells_more more s adds)
spells_more more (value.plain is s) adds = value.plain is (spells_more more s adds)

pub spells_before : {raw text : List ℕ} (trail : List ℕ) → AreBlank trail → SpellsValue raw text outside
    → SpellsValue (raw ++ trail) text outside
spells_before trail all s = spells_more trail s all

pub spells_between : {raw text : List ℕ} (lead trail : List ℕ) → AreBlank lead → AreBlank trail
    → SpellsValue raw text outside
    → SpellsValue (lead ++ (raw ++ trail)) text outside
spells_between lead trail before after s = after_lead lead before (spells_before trail after s) []

-- what is put in the place of a value
no_core : {text blanks core : List ℕ} (trail : List ℕ) (rest : List ℕ) → Run is_blank text blanks rest
    → rest ≢ [] → rest ≡ core ++ trail → AreBlank trail → core ≢ []
no_core [] rest run some joined all none = some (joined ∙ ap (λ c. c ++ []) none)
no_core (b ∷ trail) rest run some joined all none =
    let same : rest ≡ b ∷ trail = joined ∙ ap (λ c. c ++ b ∷ trail) none in
    true≢false (sym (first_blank b trail all) ∙ subst (StopsRun is_blank) same run.longest)

pub put_between : {raw : List ℕ} (lead rest core trail value : List ℕ) → is_spellable value ≡ true
    → Run is_blank raw lead rest → rest ≢ [] → rest ≡ core ++ trail → AreBlank trail
    → ((more : List ℕ) (b : ℕ) → core ≡ more ++ b ∷ [] → is_blank b ≡ false)
    → {between tail : List ℕ} → IsPutIn between tail raw value (lead ++ (git_spelled value ++ trail))
put_between lead rest core trail value spellable run some joined all last =
    let spelling = git_spelling value spellable in
    let begins : (b : ℕ) (more : List ℕ) → core ≡ b ∷ more → is_blank b ≡ false =
    λ b more e. subst (StopsRun is_blank) (joined ∙ ap (λ c. c ++ trail) e) run.longest in
    record {
      spells = spells_between lead trail run.pass all spelling.0;
      puts = rw (run.joined, joined)
          (spec.in_place lead trail run.pass (no_core trail rest run some joined all, begins, last) all
          (spelling, refl));
    }

pub gap_spaces : {Wanted : Type 0} {gap : List ℕ} → SpaceIf Wanted gap → list_all is_space gap ≡ true
gap_spaces (spec.wanted is) = refl
gap_spaces (spec.unwanted is) = refl

pub gap_blank : {Wanted : Type 0} {gap : List ℕ} → SpaceIf Wanted gap → AreBlank gap
gap_blank (spec.wanted is) = refl
gap_blank (spec.unwanted is) = refl

pub space_is : {Wanted : Type 0} (b : Bool) → (IsTrue b ↔ Wanted) → SpaceIf Wanted (space_if b)
space_is true (there, back) = spec.wanted (there refl)
space_is false (there, back) = spec.unwanted (λ is. true≢false (sym (back is)))

pub parts_blank : (a b : List ℕ) → AreBlank (a ++ b) → AreBlank a × AreBlank b
parts_blank a b all =
    and_parts (list_all is_blank a) (list_all is_blank b) (sym (list_all-append is_blank a b) ∙ all)

pub both_blank : (a b : List ℕ) → AreBlank a → AreBlank b → AreBlank (a ++ b)
both_blank a b all also = rw (list_all-append is_blank a b, all, also) refl

pub put_in_blanks : (blanks lead trail between tail value : List ℕ) (spaced signed : Bool)
    → is_spellable value ≡ true
    → AreBlank blanks → blanks ≡ lead ++ trail → PartsBlanks lead trail
    → (IsTrue spaced ↔ ((lead ≡ []) × (between ≢ 61 ∷ [])))
    → (IsTrue signed ↔ ((trail ≡ []) × BeginsWithSign tail))
    → IsPutIn between tail blanks value
    (lead ++ ((space_if spaced ++ (git_spelled value ++ space_if signed)) ++ trail))
put_in_blanks blanks lead trail between tail value spaced signed spellable all joined parts is also =
    let spelling = git_spelling value spellable in
    let both = rw joined at all in
    let (before, after) = parts_blank lead trail both in
    let gap = space_if spaced in
    let later = space_if signed in
    let is_gap = space_is spaced is in
    let is_later = space_is signed also in
    let spells =
    spells_between (lead ++ gap) (later ++ trail) (both_blank lead gap before (gap_blank is_gap))
    (both_blank later trail (gap_blank is_later) after) spelling.0 in
    record {
      spells = simp append_assoc (simp append_assoc at spells);
      puts = rw joined (spec.in_blanks lead trail both parts is_gap (spelling, refl) is_later);
    }

-- what the code takes of blanks
pub first_one : (blanks lead trail rest : List ℕ) (b : ℕ) → blanks ≡ lead ++ trail → length lead ≡ 1
    → blanks ≡ b ∷ rest → ¬ ((b ≡ 13) × (rest ≡ [])) → PartsBlanks lead trail
first_one blanks [] trail rest b joined one cut other = cc
first_one blanks (c ∷ d ∷ lead) trail rest b joined one cut other = absurd (omega arith)
first_one blanks (c ∷ []) trail rest b joined one cut other =
    let same : c ∷ trail ≡ b ∷ rest = sym joined ∙ cut in
    spec.first (λ (is, none). other (cc, cc))

pub none_first : (blanks lead trail : List ℕ) → blanks ≡ lead ++ trail → length lead ≡ 0
    → (blanks ≡ []) ⊎ (blanks ≡ 13 ∷ []) → PartsBlanks lead trail
none_first blanks (b ∷ lead) trail joined zero either = absurd (omega arith)
none_first blanks [] trail joined zero (inl none) = rw (sym joined ∙ none) spec.none
none_first blanks [] trail joined zero (inr return) = rw (sym joined ∙ return) spec.return

-- the last of a list
pub last_of : {A : Type 0} (a b : List A) (x y : A) → a ++ x ∷ [] ≡ b ++ y ∷ [] → (a ≡ b) × (x ≡ y)
last_of [] [] x y e = (refl, cc)
last_of [] (c ∷ []) x y e = absurd (cc)
last_of [] (c ∷ d ∷ b) x y e = absurd (cc)
last_of (c ∷ []) [] x y e = absurd (cc)
last_of (c ∷ d ∷ a) [] x y e = absurd (cc)
last_of (c ∷ a) (d ∷ b) x y e =
    let (fronts, lasts) = last_of a b x y (cc) in (cc, lasts)

pub some_last : {A : Type 0} (xs : List A)
    → (xs ≡ []) ⊎ ((front : List A) × (last : A) × (xs ≡ front ++ last ∷ []))
some_last [] = inl refl
some_last (x ∷ xs) = elim (some_last xs) [
  | inl none ↦ inr ([], x, ap (λ t. x ∷ t) none)
  | inr (front, last, is) ↦ inr (x ∷ front, last, ap (λ t. x ∷ t) is)
]

pub last_holds : (test : ℕ → Bool) (front : List ℕ) (b : ℕ) → list_all test (front ++ b ∷ []) ≡ true
    → test b ≡ true
last_holds test front b all =
    let (before, last) = and_parts (list_all test front) (list_all test (b ∷ [])) (sym (list_all-append test front (b ∷ [])) ∙ all) in
    (and_parts (test b) true last).0

key_no_blank : (b : ℕ) → is_key_byte b ≡ true → is_blank b ≡ false
key_no_blank b is = grind (arith, nat_tests)

pub space_blank : (b : ℕ) → is_space b ≡ true → is_blank b ≡ true
space_blank b is = grind (arith, nat_tests)

-- the last byte of a key is no blank
key_last : {text key rest : List ℕ} → TakesKey text key rest → BeginsWithLetter text
    → (front : List ℕ) × (b : ℕ) × (key ≡ front ++ b ∷ []) × (is_blank b ≡ false)
key_last {key = key} t (l, more, text_is, letter) = elim (some_last key) [
  | inl none ↦
      let e : l ∷ more ≡ t.spaced = sym text_is ∙ t.key_run.joined ∙ ap (λ k. k ++ t.spaced) none in
      let stops : is_key_byte l ≡ false = subst (StopsRun is_key_byte) (sym e) t.key_run.longest in
      absurd (true≢false (sym (letter_is_key_byte l letter) ∙ stops))
  | inr (front, b, is) ↦ (
    front,
    b,
    is,
    key_no_blank b (last_holds is_key_byte front b (rw is at t.key_run.pass)),
  )
]

-- an entry with another value
-- what precedes the value of an entry, which may have another value there, before another rest
pub record CanHold (key raw at front : List ℕ) : Type 0 where
  pub start : List ℕ
  pub before : List ℕ
  pub start_is : start ≡ before ++ 61 ∷ []
  pub joined : front ≡ start ++ raw
  pub ends : EndsValue at
  pub holds : (put value other : List ℕ) → SpellsValue put value outside → EndsValue other
      → TakesEntry ((start ++ put) ++ other) key (Some put) (line_feeds put) other
      × BeginsWithLetter ((start ++ put) ++ other)

pub value_ends : {after raw rest : List ℕ} {lines : ℕ} → TakesValue after raw lines rest
    → (after ≡ raw ++ rest) × EndsValue rest
value_ends (closed joined spells ends) = (joined, ends)
value_ends (open_end {raw = raw} spells) = (sym (append-nil raw), tt)

-- what precedes the value of an entry, and its bytes
pub record Behind (text key : List ℕ) (value : Option (List ℕ)) (rest : List ℕ) : Type 0 where
  pub between : List ℕ
  pub spaces : List ℕ
  pub joined : text ≡ (key ++ (between ++ value_bytes value)) ++ rest
  pub are_spaces : list_all is_space spaces ≡ true
  pub alone_is : value ≡ None → between ≡ spaces
  pub valued_is : (raw : List ℕ) → value ≡ Some raw → between ≡ spaces ++ 61 ∷ []

pub behind : {text key rest : List ℕ} {value : Option (List ℕ)} {lines : ℕ}
    → TakesEntry text key value lines rest
    → Behind text key value rest
behind (alone {rest = rest} t end) =
    record {
      between = t.spaces;
      spaces = t.spaces;
      joined = key_joined rest t
          ∙ simp append-nil;
      are_spaces = t.space_run.pass;
      alone_is = λ none. refl;
      valued_is =
          λ raw some. cc;
    }
behind (valued {b = b} t is_sign value) =
    let ends = (value_ends value).0 in
    record {
      between = t.spaces ++ b ∷ [];
      spaces = t.spaces;
      joined = simp (t.key_run.joined, t.space_run.joined, ends, append_assoc);
      are_spaces = t.space_run.pass;
      alone_is = λ none. cc;
      valued_is = λ raw some. rw is_sign refl;
    }

-- what is appended one after the other
pub appended : {first second third : List ℕ} (text start put tail : List ℕ) → third ≡ second ++ tail
    → second ≡ first ++ put
    → first ≡ text ++ start → third ≡ text ++ (start ++ (put ++ tail))
appended text start put tail last then one = rw (last, then, one) (simp append_assoc)

not_alone : (front : List ℕ) (b c d : ℕ) → (front ++ b ∷ []) ++ c ∷ [] ≡ d ∷ [] → ⊥
not_alone [] b c d e = cc
not_alone (x ∷ []) b c d e = cc
not_alone (x ∷ y ∷ front) b c d e = cc

-- what the code finds before the `=`: whether blanks precede it
pub spaced_of : {text rest start : List ℕ} {yes : Bool} (lead key spaces : List ℕ)
    → TakesKey text key rest → BeginsWithLetter text → list_all is_space spaces ≡ true
    → start ≡ lead ++ (key ++ (spaces ++ 61 ∷ []))
    → ((before : List ℕ) (b c : ℕ) → start ≡ before ++ b ∷ c ∷ [] → yes ≡ is_blank b)
    → IsTrue yes ↔ ((spaces ++ 61 ∷ []) ≢ 61 ∷ [])
spaced_of lead key spaces t begins all start_is tests = elim (some_last spaces) [
  | inl none ↦
      let (front, b, key_is, other) = key_last t begins in
      let whole : lead ++ (key ++ (spaces ++ 61 ∷ [])) ≡ (lead ++ front) ++ b ∷ 61 ∷ [] =
      ap (λ k. lead ++ (k ++ (spaces ++ 61 ∷ []))) key_is
      ∙ ap (λ s. lead ++ ((front ++ b ∷ []) ++ (s ++ 61 ∷ []))) none
      ∙ simp append_assoc in
      let off = tests (lead ++ front) b 61 (start_is ∙ whole) in (
        λ is. absurd (true≢false (sym is ∙ off ∙ other)),
        λ differs.
            absurd (differs (ap (λ s. s ++ 61 ∷ []) none)),
      )
  | inr (front, b, is) ↦
      let whole : lead ++ (key ++ (spaces ++ 61 ∷ [])) ≡ (lead ++ (key ++ front)) ++ b ∷ 61 ∷ [] =
      ap (λ s. lead ++ (key ++ (s ++ 61 ∷ []))) is ∙ simp append_assoc in
      let on = tests (lead ++ (key ++ front)) b 61 (start_is ∙ whole) in
      let blank = space_blank b (last_holds is_space front b (rw is at all)) in
      (λ yes same. not_alone front b 61 61 (rw is at same), λ differs. on ∙ blank)
]

-- what the code finds behind a key alone: whether blanks are there
pub closed_of : {text rest : List ℕ} (lead key spaces core blanks : List ℕ)
    → TakesKey text key rest → BeginsWithLetter text → list_all is_space spaces ≡ true
    → lead ++ (key ++ spaces) ≡ core ++ blanks → AreBlank blanks
    → ((more : List ℕ) (b : ℕ) → core ≡ more ++ b ∷ [] → is_blank b ≡ false)
    → (blanks ≡ []) ↔ (spaces ≡ [])
closed_of lead key spaces core blanks t begins are_spaces joined all last = (
  λ no_blanks. elim (some_last spaces) [
    | inl is ↦ is
    | inr (front, b, is) ↦
        let blank = space_blank b (last_holds is_space front b (rw is at are_spaces)) in
        let core_is : core ≡ (lead ++ (key ++ front)) ++ b ∷ [] =
        sym (append-nil core) ∙ ap (λ x. core ++ x) (sym no_blanks) ∙ sym joined
        ∙ ap (λ s. lead ++ (key ++ s)) is ∙ simp append_assoc in
        absurd (true≢false (sym blank ∙ last (lead ++ (key ++ front)) b core_is))
  ],
  λ no_spaces. elim (some_last blanks) [
    | inl is ↦ is
    | inr (front, b, is) ↦
        let (more, k, key_is, other) = key_last t begins in
        let ends : (core ++ front) ++ b ∷ [] ≡ (lead ++ more) ++ k ∷ [] =
        append_assoc core front (b ∷ []) ∙ ap (λ x. core ++ x) (sym is) ∙ sym joined
        ∙ ap (λ s. lead ++ (key ++ s)) no_spaces ∙ ap (λ k. lead ++ (k ++ [])) key_is
        ∙ simp (append_assoc, append-nil) in
        let same = (last_of (core ++ front) (lead ++ more) b k ends).1 in
        let blank = last_holds is_blank front b (rw is at all) in
        absurd (true≢false (sym blank ∙ ap is_blank same ∙ other))
  ],
)

pub key_taken : {text key rest : List ℕ} {value : Option (List ℕ)} {lines : ℕ}
    → TakesEntry text key value lines rest
    → (left : List ℕ) × TakesKey text key left
key_taken (alone {rest = rest} t end) = (rest, t)
key_taken (valued {b = b} {after = after} t is_sign value) = (b ∷ after, t)

pub can_hold : {text key raw at : List ℕ} {lines : ℕ} {held : Option (List ℕ)} (front : List ℕ)
    → text ≡ front ++ at → held ≡ Some raw → BeginsWithLetter text
    → TakesEntry text key held lines at → CanHold key raw at front
can_hold front joined e begins (alone takes end) = cc
can_hold {text = text} {key = key} {raw = raw} {at = at} front joined e begins
    (valued {after = after} {raw = raw_too} takes is taken) =
    let same : raw_too ≡ raw = cc in
    let (before, text_is, key_takes) = key_before_value takes is in
    let (after_is, ends) = value_ends taken in
    let start = before ++ 61 ∷ [] in
    record {
      start = start;
      before = before;
      start_is = refl;
      joined = append_cancel_right front
          (start ++ raw) at (sym joined ∙ simp (text_is, after_is, same, append_assoc));
      ends = ends;
      holds = λ put value other spells ends_now. (
        simp append_assoc (valued (key_takes (put ++ other)) refl (closed refl spells ends_now)),
        simp append_assoc (letter_before before 61 after (put ++ other)
            (subst BeginsWithLetter text_is begins)),
      );
    }

-- how the code cuts an entry
pub tail_cut : {key at blanks bytes rest : List ℕ} {was : Option (List ℕ)} {lines : ℕ} {is_line : Bool}
    (e : IsEntry key was lines at blanks bytes rest is_line) (tail : List ℕ)
    → at ≡ tail ++ rest → tail ≡ e.tail
tail_cut {rest = rest} e tail joined = append_cancel_right tail e.tail rest (sym joined ∙ e.left)

pub front_cut : {key at blanks bytes rest : List ℕ} {was : Option (List ℕ)} {lines : ℕ} {is_line : Bool}
    (e : IsEntry key was lines at blanks bytes rest is_line) (front tail : List ℕ)
    → bytes ≡ front ++ tail → tail ≡ e.tail → front ≡ blanks ++ e.front
front_cut {blanks = blanks} e front tail joined is =
    append_cancel_right front (blanks ++ e.front) e.tail
    (ap (λ t. front ++ t) (sym is) ∙ sym joined ∙ e.joined ∙ sym (append_assoc blanks e.front e.tail))

-- the piece has the entry of these parts
abbrev pub IsEntryIn : EntryParts → Piece → Type 0
IsEntryIn parts piece =
    IsEntry parts.key.now (value_of parts.value) parts.lines parts.rest.now
    piece.blanks.now piece.bytes.now piece.rest.now piece.is_line

-- an entry, whose bytes these are now behind its key
pub shaped_by : {parts : EntryParts} {piece : Piece} {value put : List ℕ} (e : IsEntryIn parts piece)
    (between bytes : List ℕ)
    → e.front ≡ parts.key.now ++ (between ++ value_bytes (value_of parts.value))
    → put ≡ piece.blanks.now ++ ((parts.key.now ++ (between ++ bytes)) ++ e.tail)
    → ChangesValueTo value between e.tail (value_of parts.value) bytes
    → (HasValue (value_of parts.value) value → HasHow parts value)
    → IsShaped parts.key.now (Some value) parts piece put
shaped_by {parts = parts} {piece = piece} e between bytes front_is put_is changes how =
    record {
      between = between;
      bytes = bytes;
      tail = e.tail;
      left = e.left;
      bytes_are = e.joined ∙ ap (λ f. piece.blanks.now ++ (f ++ e.tail)) front_is;
      put_is = put_is;
      is_valued = changes;
      how = how;
    }

-- what precedes the value of an entry
pub front_is_behind : (parts : EntryParts) (piece : Piece) (e : IsEntryIn parts piece)
    (b : Behind (e.front ++ parts.rest.now) parts.key.now (value_of parts.value) parts.rest.now)
    → e.front ≡ parts.key.now ++ (b.between ++ value_bytes (value_of parts.value))
front_is_behind parts piece e b =
    append_cancel_right e.front (parts.key.now
    ++ (b.between ++ value_bytes (value_of parts.value))) parts.rest.now b.joined

-- what precedes the bytes of a value that is there
pub start_is_behind : (parts : EntryParts) (piece : Piece) (raw start between : List ℕ)
    (e : IsEntryIn parts piece)
    → e.front ≡ parts.key.now ++ (between ++ raw) → piece.bytes.now ≡ (start ++ raw) ++ e.tail
    → start ≡ piece.blanks.now ++ (parts.key.now ++ between)
start_is_behind parts piece raw start between e front_is bytes_is =
    let whole = piece.blanks.now ++ (parts.key.now ++ between) in
    append_cancel_right start whole raw
    (append_cancel_right (start ++ raw) (whole ++ raw) e.tail
    (sym bytes_is ∙ e.joined ∙ ap (λ f. piece.blanks.now ++ (f ++ e.tail)) front_is ∙ simp append_assoc))

pub value_changed : {parts : EntryParts} {piece : Piece} (raw value put start between tail : List ℕ)
    → value_of parts.value ≡ Some raw
    → (e : IsEntryIn parts piece) → tail ≡ e.tail
    → e.front ≡ parts.key.now ++ (between ++ value_bytes (value_of parts.value))
    → piece.bytes.now ≡ (start ++ raw) ++ e.tail → IsPutIn between tail raw value put
    → ¬ (HasValue (value_of parts.value) value) → IsValued (Some value) parts piece (start ++ (put ++ tail))
value_changed {parts = parts} {piece = piece} raw value put start between tail held e tail_is front_is bytes_is put_in_tail other =
    let is_put : IsPutIn between e.tail raw value put = rw tail_is at put_in_tail in
    let key = parts.key.now in
    let c = can_hold e.front refl held e.begins e.takes in
    let (takes, begins) = c.holds put value parts.rest.now is_put.spells c.ends in
    let blanks = piece.blanks.now in
    let raw_front : e.front ≡ key ++ (between ++ raw) = front_is ∙ ap (λ w. key ++ (between ++ value_bytes w)) held in
    let c_is : c.start ≡ key ++ between =
    append_cancel_right c.start (key ++ between) raw (sym c.joined ∙ raw_front
    ∙ sym (append_assoc key between raw)) in
    let start_is = start_is_behind parts piece raw start between e raw_front bytes_is in
    let whole : start ++ (put ++ tail) ≡ blanks ++ ((key ++ (between ++ put)) ++ e.tail) =
    ap (λ t. start ++ (put ++ t)) tail_is ∙ ap (λ s. s ++ (put ++ e.tail)) start_is ∙ simp append_assoc in
    let joined : c.start ++ put ≡ key ++ (between ++ put) = ap (λ s. s ++ put) c_is ∙ append_assoc key between put in
    record {
      raw = Some put;
      lines = line_feeds put;
      at = parts.rest.now;
      value_is = (outside, is_put.spells);
      entry = record {
        front = key ++ (between ++ put);
        tail = e.tail;
        begins = rw joined at begins;
        takes = rw joined at takes;
        left = e.left;
        is_tail = e.is_tail;
        joined = whole;
      };
      shaped = shaped_by e between put front_is whole (inr (other, rw held is_put.puts)) (λ has.
          absurd (other has));
    }

-- a value for a key alone
spaces_stop : (spaces other : List ℕ) → list_all is_space spaces ≡ true → StopsRun is_key_byte other
    → StopsRun is_key_byte (spaces ++ other)
spaces_stop [] other all stops = stops
spaces_stop (s ∷ spaces) other all stops = grind (arith, nat_tests)

-- a key with more spaces behind it, before another rest
pub key_before : {text key at : List ℕ} (t : TakesKey text key at) (gap rest : List ℕ)
    → list_all is_space gap ≡ true
    → StopsRun is_key_byte rest → StopsRun is_space rest
    → TakesKey ((key ++ t.spaces) ++ (gap ++ rest)) key rest
key_before t gap rest all stops ends =
    let are : list_all is_space (t.spaces ++ gap) ≡ true =
    rw (list_all-append is_space t.spaces gap, t.space_run.pass, all) refl in
    record {
      spaced = (t.spaces ++ gap) ++ rest;
      spaces = t.spaces ++ gap;
      key_run = record {
        joined = simp append_assoc;
        pass = t.key_run.pass;
        longest = spaces_stop (t.spaces ++ gap) rest are stops;
      };
      space_run = record { joined = refl; pass = are; longest = ends };
    }

-- the rest of a line, without its first blanks
comment_ends_value : {comment : List ℕ} (more : List ℕ) → IsComment comment → EndsValue more
    → EndsValue (comment ++ more)
comment_ends_value more absent ends = ends
comment_ends_value more (present is all) ends = inr is

unblanked : {tail rest : List ℕ} {is_line : Bool} (t : IsTail tail rest is_line)
    → (left : List ℕ) × (tail ≡ t.blanks ++ left) × IsTail left rest is_line × EndsValue (left ++ rest)
unblanked {rest = rest} t =
    elim t.ends [
      | inl (is, joined) ↦ (
        t.comment ++ 10 ∷ [],
        joined,
        record {
          blanks = [];
          comment = t.comment;
          are_blank = refl;
          is_comment = t.is_comment;
          ends = inl
              (is, refl);
        },
        rw append_assoc (comment_ends_value (10 ∷ rest) t.is_comment (inl refl)),
      )
      | inr (is, none, joined) ↦ (
        t.comment,
        joined,
        record {
          blanks = [];
          comment = t.comment;
          are_blank = refl;
          is_comment = t.is_comment;
          ends = inr
              (is, none, refl);
        },
        comment_ends_value rest t.is_comment (rw none tt),
      )
    ]

no_letter : (b : ℕ) (more : List ℕ) → IsAtLineEnd (b ∷ more) → is_ascii_alphabetic b ≡ true → ⊥
no_letter b [] end letter = grind (arith, nat_tests)
no_letter b (c ∷ more) (inl is) letter = grind (arith, nat_tests)
no_letter b (c ∷ more) (inr is) letter = let return : b ≡ 13 = is.0 in grind (arith, nat_tests)

pub letter_in_front : (front at other : List ℕ) → BeginsWithLetter (front ++ at) → IsAtLineEnd at
    → BeginsWithLetter (front ++ other)
letter_in_front [] at other (b, more, e, letter) end =
    absurd (no_letter b more (subst IsAtLineEnd e end) letter)
letter_in_front (x ∷ front) at other (b, more, e, letter) end = (b, front ++ other, cc, letter)

pub with_value : {text key at : List ℕ} {lines : ℕ} {held : Option (List ℕ)} (front gap raw value : List ℕ)
    {rest : List ℕ}
    → text ≡ front ++ at → held ≡ None → BeginsWithLetter text
    → TakesEntry text key held lines at → list_all is_space gap ≡ true → SpellsValue raw value outside
    → EndsValue rest
    → TakesEntry ((front ++ gap) ++ 61 ∷ (raw ++ rest)) key (Some raw) (line_feeds raw) rest
    × BeginsWithLetter ((front ++ gap) ++ 61 ∷ (raw ++ rest))
with_value front gap raw value joined none begins (valued takes is taken) is_gap spells ends = cc
with_value {key = key} {at = at} front gap raw value {rest = rest} joined none begins
    (alone takes end) is_gap spells ends =
    let front_is : front ≡ key ++ takes.spaces =
    append_cancel_right front (key ++ takes.spaces) at (sym joined ∙ key_joined at takes) in
    let key_takes = key_before takes gap (61 ∷ (raw ++ rest)) is_gap refl refl in
    let begins_now =
    letter_in_front front at (gap ++ 61 ∷ (raw ++ rest)) (subst BeginsWithLetter joined begins) end in (
      rw append_assoc (rw front_is (valued key_takes refl (closed refl spells ends))),
      rw append_assoc begins_now,
    )

pub value_given : {parts : EntryParts} {piece : Piece} {value : List ℕ} (close : Bool) (between : List ℕ)
    → value_of parts.value ≡ None
    → (e : IsEntryIn parts piece) → e.front ≡ parts.key.now ++ (between ++ value_bytes (value_of parts.value))
    → is_spellable value ≡ true → (IsTrue close ↔ (between ≡ []))
    → IsValued (Some value) parts piece
    ((piece.blanks.now ++ e.front) ++ ((space_if close ++ 61 ∷ 32 ∷ git_spelled value) ++ e.tail))
value_given {parts = parts} {piece = piece} {value = value} close between held e front_is spellable close_is =
    let blanks = e.is_tail.blanks in
    let key = parts.key.now in
    let (left, tail_is, is_tail, ends) = unblanked e.is_tail in
    let g = git_spelled value in
    let gap = space_if close in
    let is_gap = space_is close close_is in
    let spelling = git_spelling value spellable in
    let raw = 32 ∷ (g ++ blanks) in
    let spells : SpellsValue raw value outside =
    spells_between (32 ∷ []) blanks refl e.is_tail.are_blank spelling.0 in
    let (takes, begins) = with_value e.front gap raw value refl held e.begins e.takes (gap_spaces is_gap) spells ends in
    let put = gap ++ 61 ∷ 32 ∷ g in
    let rest = left ++ piece.rest.now in
    let key_front : e.front ≡ key ++ between =
    front_is ∙ ap (λ w. key ++ (between ++ value_bytes w)) held ∙ ap (λ b. key ++ b) (append-nil between) in
    record {
      raw = Some raw;
      lines = line_feeds raw;
      at = rest;
      value_is = (outside, spells);
      entry = record {
        front = (e.front ++ gap) ++ 61 ∷ raw;
        tail = left;
        begins = rw (append_assoc (e.front ++ gap) (61 ∷ raw) rest) begins;
        takes = rw (append_assoc (e.front ++ gap) (61 ∷ raw) rest) takes;
        left = refl;
        is_tail = is_tail;
        joined = ap (λ x. (piece.blanks.now ++ e.front) ++ (put ++ x)) tail_is ∙ simp append_assoc;
      };
      shaped = shaped_by e between put front_is
          (ap (λ f. (piece.blanks.now ++ f) ++ (put ++ e.tail)) key_front ∙ simp append_assoc)
          (inr (rw held (λ none. none), rw held (spec.behind_key is_gap (spelling, refl))))
          (rw held (λ has. absurd has));
    }

-- how the bytes of a value end: before what follows them, or at a backslash that ends the text
pub data HowEnds (raw : List ℕ) (lines : ℕ) (at : List ℕ) : Type 0 where
  before_rest : (text : List ℕ) → SpellsValue raw text outside → lines ≡ line_feeds raw → HowEnds raw lines at
  before_nothing : (text : List ℕ) → SpellsValue raw text at_backslash → lines ≡ line_feeds raw + 1 → at ≡ []
      → HowEnds raw lines at

pub how_ends : {text key raw at : List ℕ} {lines : ℕ}
    → TakesEntry text key (Some raw) lines at → HowEnds raw lines at
how_ends (valued takes is (closed {value = text} joined spells ends)) = before_rest text spells refl
how_ends (valued takes is (open_end {value = text} spells)) = before_nothing text spells refl refl

-- what a test says of a value: whether it is this one
pub how_spelled : {text key at value : List ℕ} {lines : ℕ} {yes : Bool} (was : Option (List ℕ))
    → TakesEntry text key was lines at
    → (was ≡ None → yes ≡ false)
    → ((raw spelled : List ℕ) (ending : Ending) → was ≡ Some raw → SpellsValue raw spelled ending
    → IsTrue yes ↔ (spelled ≡ value))
    → yes ≡ true
    → (raw : List ℕ) × (was ≡ Some raw) × ((SpellsValue raw value outside × (lines ≡ line_feeds raw))
    ⊎ (SpellsValue raw value at_backslash × (lines ≡ line_feeds raw + 1)))
how_spelled None takes unvalued spelled same = absurd (true≢false (sym same ∙ unvalued refl))
how_spelled (Some raw) takes unvalued spelled same =
    elim (how_ends takes) [
      | before_rest text spells count ↦
          (raw, refl, inl (rw ((spelled raw text outside refl spells).0 same) at spells, count))
      | before_nothing text spells count none ↦
          (raw, refl, inr (rw ((spelled raw text at_backslash refl spells).0 same) at spells, count))
    ]

pub not_spelled : {value : List ℕ} {yes : Bool} (was : Option (List ℕ))
    → ((raw spelled : List ℕ) (ending : Ending) → was ≡ Some raw → SpellsValue raw spelled ending
    → IsTrue yes ↔ (spelled ≡ value))
    → yes ≡ false → ¬ (HasValue was value)
not_spelled None spelled differs has = has
not_spelled {value = value} (Some raw) spelled differs (ending, spells) =
    true≢false (sym ((spelled raw value ending refl spells).1 refl) ∙ differs)

pub has_of : (parts : EntryParts) {value : List ℕ} → HasHow parts value
    → HasValue (value_of parts.value) value
has_of parts (raw, held, inl how) = rw held (outside, how.0)
has_of parts (raw, held, inr how) = rw held (at_backslash, how.0)

-- an entry that has the value already
pub value_kept : {parts : EntryParts} {piece : Piece} {value : List ℕ} → HasHow parts value
    → (e : IsEntryIn parts piece)
    → IsValued (Some value) parts piece piece.bytes.now
value_kept {parts = parts} {piece = piece} how e =
    let (raw, held, spells) = how in
    let b = behind e.takes in
    let front_is = front_is_behind parts piece e b in
    record {
      raw = Some raw;
      lines = parts.lines;
      at = parts.rest.now;
      value_is = rw held at (has_of parts how);
      entry = rw held at e;
      shaped = shaped_by e b.between (value_bytes (value_of parts.value)) front_is
          (e.joined ∙ ap (λ f. piece.blanks.now ++ (f ++ e.tail)) front_is) (inl (has_of parts how, refl))
          (λ has. how);
    }
