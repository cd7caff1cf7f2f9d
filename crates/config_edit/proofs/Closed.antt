-- Texts whose last line gets a line end.
use Rattle.std.proofs.Common.{◌≡◌, ◌≢◌, ℕ, ◌+◌, Bool, true, false, List, [], ◌∷◌, ◌++◌, Option, Some, None}
use Rattle.std.proofs.Common.{refl, sym, ap, ◌∙◌, subst, append_assoc, append-nil, arith, inl, inr, ◌⊎◌}
use Rattle.std.proofs.Common.{true≢false}
use Rattle.std.specs.List.{list_all, AllZip}
use Rattle.std.proofs.lemmas.Bool.Decides.{nat_tests}
use Rattle.std.proofs.lemmas.List.Folds.{list_all-append}
use Rattle.config_edit.specs.declared.write.End.{End}
use Rattle.config_edit.specs.declared.piece.Held.{Held}
use Rattle.config_edit.specs.declared.piece.Held.TheVariants as held
use Rattle.config_edit.specs.declared.piece.Piece.{Piece}
use Rattle.config_file.specs.Bytes.{is_space, is_key_byte, is_comment_byte, IsAtLineEnd, BeginsWithLetter}
use Rattle.config_file.specs.Runs.{StopsRun}
use Rattle.config_file.specs.Header.{Section}
use Rattle.config_file.specs.Value.{Ending, outside, at_backslash, Spells, SpellsValue, EndsValue, line_feeds}
use Rattle.config_file.specs.File.{TakesEntry, alone}
use Rattle.config_edit.specs.Edit.{Content, SameEntry}
use Rattle.config_edit.specs.Cut.{AreBlank, IsComment, absent, present}
use Rattle.config_edit.specs.Cut.{IsTail}
use Rattle.config_edit.specs.Reading as edit
use Rattle.config_edit.specs.Reading.{Holds, IsMade, IsPiece, contents_in, section_after, IsOpenHeld, IsEndOf}
use Rattle.config_edit.specs.Reading.{line_ends, Closes}
use Rattle.config_edit.specs.Reading.{IsEntry, IsLineEnd}
use Rattle.std.proofs.lemmas.List.{append_cancel_right}
use Rattle.std.proofs.lemmas.Option.{same_Some}
use Rattle.config_file.specs.Views.{section_of, value_of}
use Rattle.config_file.proofs.EachReading.{not_empty}
use Rattle.config_edit.proofs.Pieces.{blanks_lead, header_holds, entry_holds, key_joined, line_holds}
use Rattle.config_edit.proofs.Edits.{holds_join}
use Rattle.config_edit.proofs.Replaced.{end_holds}
use Rattle.config_edit.proofs.Changed.{can_hold, spells_before, spells_more, letter_in_front, both_blank}
use Rattle.config_edit.proofs.Changed.{key_before, before_rest, before_nothing, how_ends}

-- a line end: blanks, and LF
pub return_of : (bytes : List ℕ) → IsLineEnd bytes
    → (return : List ℕ) × (bytes ≡ return ++ 10 ∷ []) × ((return ≡ []) ⊎ (return ≡ 13 ∷ []))
return_of bytes (inl feed) = ([], feed, inl refl)
return_of bytes (inr both) = (13 ∷ [], both, inr refl)

pub return_blank : (return : List ℕ) → (return ≡ []) ⊎ (return ≡ 13 ∷ []) → AreBlank return
return_blank return (inl none) = rw none refl
return_blank return (inr one) = rw one refl

return_comment : (return : List ℕ) → (return ≡ []) ⊎ (return ≡ 13 ∷ [])
    → list_all is_comment_byte return ≡ true
return_comment return (inl none) = rw none refl
return_comment return (inr one) = rw one refl

-- what is left of a line, with a line end behind it
closed_comment : (blanks : List ℕ) {comment : List ℕ} → AreBlank blanks → IsComment comment
    → (return : List ℕ) → (return ≡ []) ⊎ (return ≡ 13 ∷ [])
    → IsTail ((blanks ++ comment) ++ (return ++ 10 ∷ [])) [] true
closed_comment blanks all absent return is =
    record {
      blanks = blanks ++ return;
      comment = [];
      are_blank = both_blank blanks return all (return_blank return is);
      is_comment = absent;
      ends = inl (refl, simp (append_assoc, append-nil));
    }
closed_comment blanks all (present {sign = sign} {bytes = bytes} is_sign pass) return is =
    record {
      blanks = blanks;
      comment = sign ∷ (bytes ++ return);
      are_blank = all;
      is_comment = present is_sign
          (rw (list_all-append is_comment_byte bytes return, pass, return_comment return is) refl);
      ends = inl (refl, simp append_assoc);
    }

-- what is left of a line without a line end
open_tail : {tail rest : List ℕ} → (t : IsTail tail rest false) → (rest ≡ []) × (tail ≡ t.blanks ++ t.comment)
open_tail t = elim t.ends [
  | inl line ↦ absurd (true≢false (sym line.0))
  | inr end ↦ (end.1, end.2)
]

closed_tail : {tail rest : List ℕ} (line_end : List ℕ) → IsLineEnd line_end → IsTail tail rest false
    → IsTail (tail ++ line_end) [] true
closed_tail line_end is t =
    let (return, line_is, return_is) = return_of line_end is in
    rw ((open_tail t).1, line_is) (closed_comment t.blanks t.are_blank t.is_comment return return_is)

-- a value that a backslash ends at the end of the text is the same with a line end behind it
pub goes_on_over : {w : ℕ → ℕ} {q : Bool} {so_far held raw text : List ℕ} {ending : Ending}
    (line_end return : List ℕ)
    → IsLineEnd line_end → (return ≡ []) ⊎ (return ≡ 13 ∷ []) → ending ≡ at_backslash
    → Spells w q so_far held raw text ending
    → Spells w q so_far held (raw ++ (line_end ++ return)) text outside
goes_on_over line_end return is also e s =
    spells_more (line_end ++ return) s (rw e (line_end, return, refl, is, return_blank return also))

pub more_bytes : (b : ℕ) (more : List ℕ) → list_all is_comment_byte (b ∷ more) ≡ true
    → list_all is_comment_byte more ≡ true
more_bytes b more all = grind (arith, nat_tests)

-- a line end, or what begins with one
line_end_at : (bytes : List ℕ) → IsLineEnd bytes → IsAtLineEnd bytes
line_end_at bytes (inl feed) = rw feed refl
line_end_at bytes (inr both) = rw both (inr (refl, refl))

line_end_more : (at more : List ℕ) → IsAtLineEnd at → IsAtLineEnd more → IsAtLineEnd (at ++ more)
line_end_more [] more end also = also
line_end_more (b ∷ []) [] end also = end
line_end_more (b ∷ []) (c ∷ more) end also = inl end
line_end_more (b ∷ c ∷ at) more end also = end

line_end_stops : (test : ℕ → Bool) (at : List ℕ) → IsAtLineEnd at → test 10 ≡ false → test 13 ≡ false
    → StopsRun test at
line_end_stops test [] end ten thirteen = tt
line_end_stops test (b ∷ []) end ten thirteen = rw end ten
line_end_stops test (b ∷ c ∷ at) (inl is) ten thirteen = rw is ten
line_end_stops test (b ∷ c ∷ at) (inr is) ten thirteen = rw is.0 thirteen

-- a key alone, before a line end
alone_before : {key at : List ℕ} {lines : ℕ} (front line_end : List ℕ) → BeginsWithLetter (front ++ at)
    → TakesEntry (front ++ at) key None lines at → IsLineEnd line_end
    → TakesEntry (front ++ (at ++ line_end)) key None 0 (at ++ line_end)
    × BeginsWithLetter (front ++ (at ++ line_end))
alone_before {key = key} {at = at} front line_end begins (alone takes end) is =
    let front_is : front ≡ key ++ takes.spaces =
    append_cancel_right front (key ++ takes.spaces) at (key_joined at takes) in
    let rest = at ++ line_end in
    let ends = line_end_more at line_end end (line_end_at line_end is) in
    let key_takes = key_before takes [] rest refl (line_end_stops is_key_byte rest ends refl refl)
    (line_end_stops is_space rest ends refl refl) in
    (rw front_is (alone key_takes ends), letter_in_front front at rest begins end)

ends_or : (text more : List ℕ) → EndsValue text → (text ≡ []) ⊎ EndsValue (text ++ more)
ends_or [] more ends = inl refl
ends_or (b ∷ text) more ends = inr ends

-- with these bytes, the text holds entries that are the same as those of these contents
abbrev Closing : Option Section → List ℕ → List Content → Option Section → Type 0
Closing section text contents next =
    (now : List Content) × Holds section text now next × AllZip SameEntry contents now

-- an entry at the end of a text, with a line end behind it
module _ {key at blanks bytes rest : List ℕ} {was : Option (List ℕ)} {lines : ℕ} (section : Option Section)
    (all : AreBlank blanks) (e : IsEntry key was lines at blanks bytes rest false)
    (line_end : List ℕ) (is : IsLineEnd line_end) where
  at_is : at ≡ e.tail
  at_is = e.left ∙ ap (λ r. e.tail ++ r) (open_tail e.is_tail).0 ∙ append-nil e.tail

  unchanged : (now : Option (List ℕ)) (front : List ℕ) (count : ℕ) → was ≡ now → e.front ≡ front
      → TakesEntry (front ++ (e.tail ++ line_end)) key now count (e.tail ++ line_end)
      → BeginsWithLetter (front ++ (e.tail ++ line_end))
      → Closing section (bytes ++ line_end) ((section, key, was) ∷ []) section
  unchanged now front count same front_is takes begins =
      let entry : IsEntry key now count (e.tail ++ line_end) blanks (bytes ++ line_end) [] true =
      record {
        front = front;
        tail = e.tail ++ line_end;
        begins = begins;
        takes = takes;
        left = sym (append-nil (e.tail ++ line_end));
        is_tail = closed_tail line_end is e.is_tail;
        joined = ap (λ b. b ++ line_end) (e.joined ∙ ap (λ f. blanks ++ (f ++ e.tail)) front_is)
            ∙ simp append_assoc;
      } in
      ((section, key, now) ∷ [], entry_holds blanks all entry section, ((refl, refl, inl same), tt))

  -- the value gets these bytes, and then the line end comes
  longer : {raw : List ℕ} → was ≡ Some raw → (more return text : List ℕ) (ending : Ending) → e.tail ≡ []
      → SpellsValue raw text ending → SpellsValue (raw ++ (more ++ return)) text outside
      → Closing section (bytes ++ (more ++ (return ++ 10 ∷ []))) ((section, key, was) ∷ []) section
  longer {raw = raw} held more return text ending none spells spells_now =
      let hold = can_hold e.front refl held e.begins e.takes in
      let now = raw ++ (more ++ return) in
      let (takes, begins) = hold.holds now text (10 ∷ []) spells_now (inl refl) in
      let bytes_is = e.joined ∙ ap (λ f. blanks ++ (f ++ e.tail)) hold.joined
      ∙ ap (λ t. blanks ++ ((hold.start ++ raw) ++ t)) none in
      let ends = more ++ (return ++ 10 ∷ []) in
      let entry : IsEntry key (Some now) (line_feeds now) (10 ∷ []) blanks (bytes ++ ends) [] true =
      record {
        front = hold.start ++ now;
        tail = 10 ∷ [];
        begins = begins;
        takes = takes;
        left = refl;
        is_tail = closed_comment [] refl absent [] (inl refl);
        joined = ap (λ b. b ++ ends) bytes_is ∙ simp (append_assoc, append-nil);
      } in
      let same = inr (text, rw held (ending, spells), (outside, spells_now)) in
      ((section, key, Some now) ∷ [], entry_holds blanks all entry section, ((refl, refl, same), tt))

  closed_value : {raw : List ℕ} → was ≡ Some raw → (text : List ℕ) → SpellsValue raw text outside
      → Closing section (bytes ++ line_end) ((section, key, was) ∷ []) section
  closed_value {raw = raw} held text spells =
      let hold = can_hold e.front refl held e.begins e.takes in
      let (return, line_is, return_is) = return_of line_end is in
      elim (ends_or e.tail line_end (subst EndsValue at_is hold.ends)) [
        | inl nothing ↦ rw line_is
            (longer held [] return text outside nothing spells
            (spells_before return (return_blank return return_is) spells))
        | inr ends ↦
            let (takes, begins) = hold.holds raw text (e.tail ++ line_end) spells ends in
            unchanged (Some raw) (hold.start ++ raw) (line_feeds raw) held hold.joined takes begins
      ]

  closed_over : {raw : List ℕ} → was ≡ Some raw → (text : List ℕ) → SpellsValue raw text at_backslash
      → at ≡ [] → Closing section (bytes ++ (line_end ++ line_end)) ((section, key, was) ∷ []) section
  closed_over held text spells none =
      let (return, line_is, return_is) = return_of line_end is in
      let over = goes_on_over line_end return is return_is refl spells in
      rw (ap (λ l. bytes ++ (line_end ++ l)) line_is)
      (longer held line_end return text at_backslash (sym at_is ∙ none) spells over)

closed_entry : {key at blanks bytes rest : List ℕ} {lines : ℕ} (section : Option Section) → AreBlank blanks
    → (was : Option (List ℕ)) → IsEntry key was lines at blanks bytes rest false
    → (line_end : List ℕ) → IsLineEnd line_end
    → ¬ ((raw : List ℕ) × (was ≡ Some raw) × (line_feeds raw ≢ lines))
    → Closing section (bytes ++ line_end) ((section, key, was) ∷ []) section
closed_entry section all None e line_end is other =
    let (takes, begins) = alone_before e.front line_end e.begins e.takes is in
    let is_at = at_is section all e line_end is in
    unchanged section all e line_end is None e.front 0 refl refl (rw is_at at takes) (rw is_at at begins)
closed_entry section all (Some raw) e line_end is other =
    elim (how_ends e.takes) [
      | before_rest text spells same ↦ closed_value section all e line_end is refl text spells
      | before_nothing text spells same none ↦ absurd (other (raw, refl, λ count. omega arith))
    ]

closed_open_entry : {key at blanks bytes rest : List ℕ} {lines : ℕ} (section : Option Section)
    → AreBlank blanks → (was : Option (List ℕ)) → IsEntry key was lines at blanks bytes rest false
    → (line_end : List ℕ) → IsLineEnd line_end
    → (raw : List ℕ) × (was ≡ Some raw) × (line_feeds raw ≢ lines)
    → Closing section (bytes ++ (line_end ++ line_end)) ((section, key, was) ∷ []) section
closed_open_entry section all None e line_end is (raw, held, differs) = cc
closed_open_entry section all (Some own) e line_end is (raw, held, differs) =
    elim (how_ends e.takes) [
      | before_rest text spells same ↦ absurd (differs (ap line_feeds (same_Some _ _ (sym held)) ∙ sym same))
      | before_nothing text spells same none ↦ closed_over section all e line_end is refl text spells none
    ]

-- a piece with line ends behind it
pub same_entries : (contents : List Content) → AllZip SameEntry contents contents
same_entries [] = tt
same_entries (x ∷ contents) = ((refl, refl, inl refl), same_entries contents)

pub both_same : (a b c d : List Content) → AllZip SameEntry a b → AllZip SameEntry c d
    → AllZip SameEntry (a ++ c) (b ++ d)
both_same [] [] c d first second = second
both_same [] (y ∷ b) c d first second = absurd first
both_same (x ∷ a) [] c d first second = absurd first
both_same (x ∷ a) (y ∷ b) c d first second = (first.0, both_same a b c d first.1 second)

line_closes : {tail rest : List ℕ} → IsTail tail rest false → (section : Option Section) (line_end : List ℕ)
    → IsLineEnd line_end
    → Closing section (tail ++ line_end) [] section
line_closes t section line_end is = ([], line_holds (closed_tail line_end is t) section, tt)

closes : (h : Held) (bytes rest blanks : List ℕ) → AreBlank blanks → IsMade h blanks bytes rest false
    → (section : Option Section)
    → (line_end : List ℕ) → IsLineEnd line_end
    → (¬ (IsOpenHeld h) → Closing section (bytes ++ line_end) (contents_in h section)
    (section_after h section))
    × (IsOpenHeld h → Closing section (bytes ++ (line_end ++ line_end)) (contents_in h section)
    (section_after h section))
closes (held.Entry parts) bytes rest blanks all made section line_end is = (
  λ other. closed_entry section all (value_of parts.value) made line_end is other,
  λ opened. closed_open_entry section all (value_of parts.value) made line_end is opened,
)
closes (held.Header new) bytes rest blanks all made section line_end is =
    let ended = end_holds (Some (section_of new)) line_end (inr is) in
    let holds = holds_join bytes line_end (header_holds all made section) ended in
    (λ other. ([], holds, tt), λ opened. absurd opened)
closes h bytes rest blanks all made section line_end is =
    (λ other. line_closes made.0 section line_end is, λ opened. absurd opened)

-- a piece that ends its line holds the same wherever it stands
piece_holds : (h : Held) (bytes rest blanks : List ℕ) → AreBlank blanks → IsMade h blanks bytes rest true
    → (section : Option Section) → Holds section bytes (contents_in h section) (section_after h section)
piece_holds (held.Entry parts) bytes rest blanks all made section = entry_holds blanks all made section
piece_holds (held.Header new) bytes rest blanks all made section = header_holds all made section
piece_holds h bytes rest blanks all made section = line_holds made.0 section

pub piece_closes : {text : List ℕ} {e : End} (piece : Piece) → IsPiece text piece → IsEndOf piece e
    → (section : Option Section)
    → Closes section piece.bytes.now (contents_in piece.held section) (section_after piece.held section) e
piece_closes piece is (edit.line ends_line) section = λ line_end line_is.
    let contents = contents_in piece.held section in
    let made = rw ends_line at is.made in
    let holds = piece_holds piece.held piece.bytes.now piece.rest.now piece.blanks.now is.blank made section in
    (contents, rw append-nil holds, same_entries contents)
piece_closes piece is (edit.unended goes_on other) section = λ line_end line_is.
    (closes piece.held piece.bytes.now piece.rest.now piece.blanks.now is.blank
    (rw goes_on at is.made) section line_end line_is).0 other
piece_closes piece is (edit.backslashed goes_on is_open) section = λ line_end line_is.
    (closes piece.held piece.bytes.now piece.rest.now piece.blanks.now is.blank
    (rw goes_on at is.made) section line_end line_is).1 is_open
