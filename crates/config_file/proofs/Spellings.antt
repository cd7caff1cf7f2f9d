-- Spellings of values.
use Rattle.std.proofs.Common.{◌≡◌, ◌≢◌, ℕ, suc, ◌-◌, ◌≤◌, Bool, true, false, not, ◌||◌, List, [], ◌∷◌, ◌++◌}
use Rattle.std.proofs.Common.{Option, Some, None, length, refl, sym, ap, subst, ◌∙◌, append_assoc, append-nil}
use Rattle.std.proofs.Common.{arith, inl, inr, ◌==◌, slice_index_or}
use Rattle.std.specs.Prelude.{nat_eq}
use Rattle.std.specs.List.{flat_map, list_any}
use Rattle.std.proofs.lemmas.List.Folds.{list_all-append}
use Rattle.std.proofs.lemmas.Bool.{cases_Bool, true≢false, or_parts}
use Rattle.std.proofs.lemmas.Bool.Decides.{nat_tests}
use Rattle.config_file.specs.Bytes.{is_plain}
use Rattle.config_file.specs.Value.{Ending, outside, Spells, itself, as_space, ends_outside, ends_inside}
use Rattle.config_file.specs.Value.{ends_at_backslash, quote, escaped, continued, continued_after_return}
use Rattle.config_file.specs.Value.{blank, plain, kept, escape}
use Rattle.config_file.specs.Spelling.{IsSpelling, HasNoSpelling, letter_of, after_backslash, spelled_byte}
use Rattle.config_file.specs.Spelling.{is_lost, begins_with_space, ends_with_space, needs_quotes, git_spelled}
use Rattle.config_file.proofs.Pick.{equal}
use Rattle.config_file.proofs.Spelled.{kept_none, blank_inner, plain_inner}
use Rattle.config_file.specs.Reading.Spellings.{is_spellable}

pub ends_with_space_at : (value : List ℕ) → 1 ≤ length value
    → nat_eq (slice_index_or value (length value - 1) 0) 32 ≡ ends_with_space value
ends_with_space_at [] some = cc
ends_with_space_at (b ∷ []) some = refl
ends_with_space_at (b ∷ c ∷ rest) some =
    let next : length (b ∷ c ∷ rest) - 1 ≡ suc (length (c ∷ rest) - 1) = omega arith in
    let more = ends_with_space_at (c ∷ rest) (omega arith) in rw next more

letter_escapes : (b l : ℕ) → letter_of b ≡ Some l → escape l ≡ Some b
letter_escapes b l e = grind (arith, nat_tests)

plain_in_quotes : (b : ℕ) → letter_of b ≡ None → b ≢ 0 → is_plain true b ≡ true
plain_in_quotes b e some = grind (arith, nat_tests)

plain_outside : (b : ℕ) → letter_of b ≡ None → b ≢ 0 → is_lost b ≡ false → b ≢ 32
    → is_plain false b ≡ true
plain_outside b e some found other = grind (arith, nat_tests)

-- a spelled byte, before bytes that spell the rest of a value, adds that byte to the value
spelled_next : {w : ℕ → ℕ} {q : Bool} {value held raw text : List ℕ} {e : Ending} (b : ℕ) (o : Option ℕ)
    → letter_of b ≡ o
    → (letter_of b ≡ None → is_plain q b ≡ true)
    → Spells w q (kept value held ++ b ∷ []) [] raw text e
    → Spells w q value held (after_backslash b o ++ raw) text e
spelled_next b (Some l) is no_letter h = escaped refl (letter_escapes b l is) h
spelled_next b None is no_letter h = plain (no_letter is) h

spelled_quoted : (w : ℕ → ℕ) (value before : List ℕ) → is_spellable value ≡ true
    → Spells w true before [] (flat_map spelled_byte value ++ 34 ∷ []) (before ++ value) outside
spelled_quoted w [] before all = quote refl (rw (kept_none before, append-nil before) ends_outside)
spelled_quoted w (b ∷ rest) before all =
    let some : b ≢ 0 = grind (arith, nat_tests) in
    let others : is_spellable rest ≡ true = grind (arith, nat_tests) in
    let more = spelled_quoted w rest (before ++ b ∷ []) others in
    let same : (before ++ b ∷ []) ++ rest ≡ before ++ b ∷ rest = append_assoc before (b ∷ []) rest in
    rw (append_assoc (spelled_byte b) (flat_map spelled_byte rest) (34 ∷ []))
    (spelled_next b (letter_of b) refl (λ e. plain_in_quotes b e some) (rw (kept_none before) (rw same at more)))

last_is_no_space : (b : ℕ) (rest : List ℕ) → ends_with_space (b ∷ rest) ≡ false → ends_with_space rest ≡ false
last_is_no_space b [] e = refl
last_is_no_space b (c ∷ rest) e = e

last_alone_is_no_space : (b : ℕ) (rest : List ℕ) → ends_with_space (b ∷ rest) ≡ false → b ≡ 32 → rest ≡ [] → ⊥
last_alone_is_no_space b [] last is none = grind (arith, nat_tests)
last_alone_is_no_space b (c ∷ rest) last is none = cc

pushed_before : (xs ys rest : List ℕ) (b : ℕ) → (xs ++ (ys ++ b ∷ [])) ++ rest ≡ (xs ++ ys) ++ b ∷ rest
pushed_before xs ys rest b =
    ap (λ l. l ++ rest) (sym (append_assoc xs ys (b ∷ []))) ∙ append_assoc (xs ++ ys) (b ∷ []) rest

-- outside quotes, where a space is read as a space
module _ (w : ℕ → ℕ) (reads : w 32 ≡ 32) where
  blank_next : {raw : List ℕ} (before rest held : List ℕ) (first : ℕ)
      → Spells w false (first ∷ before) (held ++ 32 ∷ []) raw (kept (first ∷ before) (held ++ 32 ∷ []) ++ rest) outside
      → Spells w false (first ∷ before) held (32 ∷ raw) (kept (first ∷ before) held ++ 32 ∷ rest) outside
  blank_next before rest held first h =
      blank refl (rw reads (rw (pushed_before (first ∷ before) held rest 32) at h))

  spelled_after : (value before held : List ℕ) (first : ℕ) → is_spellable value ≡ true
      → list_any is_lost value ≡ false
      → ends_with_space value ≡ false → (value ≡ [] → held ≡ [])
      → Spells w false (first ∷ before) held (flat_map spelled_byte value) (kept (first ∷ before) held ++ value) outside
  spelled_after [] before held first all found last none =
      let e = none refl in rw (e, append-nil before, append-nil (first ∷ before)) ends_outside
  spelled_after (b ∷ rest) before held first all found last none =
      let some : b ≢ 0 = grind (arith, nat_tests) in
      let others : is_spellable rest ≡ true = grind (arith, nat_tests) in
      let not_lost : is_lost b ≡ false = grind (arith, nat_tests) in
      let no_others : list_any is_lost rest ≡ false = grind (arith, nat_tests) in
      let last_other = last_is_no_space b rest last in
      elim (equal b 32) [
        | inl is ↦
            let more = spelled_after rest before (held ++ 32 ∷ []) first others no_others last_other
            (λ e. absurd (last_alone_is_no_space b rest last is e)) in
            rw is (blank_next before rest held first more)
        | inr no_space ↦
            let now = before ++ held ++ b ∷ [] in
            let more = spelled_after rest now [] first others no_others last_other (λ e. refl) in
            let same : kept (first ∷ now) [] ++ rest ≡ kept (first ∷ before) held ++ b ∷ rest =
            rw (append-nil now) (ap (◌∷◌ first) (append_assoc (before ++ held) (b ∷ []) rest)) in
            spelled_next b (letter_of b) refl (λ e. plain_outside b e some not_lost no_space) (rw same at more)
      ]

  spelled_outside : (value : List ℕ) → is_spellable value ≡ true → list_any is_lost value ≡ false
      → begins_with_space value ≡ false → ends_with_space value ≡ false
      → Spells w false [] [] (flat_map spelled_byte value) value outside
  spelled_outside [] all found first last = ends_outside
  spelled_outside (b ∷ rest) all found first last =
      let some : b ≢ 0 = grind (arith, nat_tests) in
      let others : is_spellable rest ≡ true = grind (arith, nat_tests) in
      let not_lost : is_lost b ≡ false = grind (arith, nat_tests) in
      let no_others : list_any is_lost rest ≡ false = grind (arith, nat_tests) in
      let no_space : b ≢ 32 = grind (arith, nat_tests) in
      spelled_next b (letter_of b) refl (λ e. plain_outside b e some not_lost no_space)
      (spelled_after rest [] [] b others no_others (last_is_no_space b rest last) (λ e. refl))

unquoted : (w : ℕ → ℕ) → w 32 ≡ 32 → (value : List ℕ) → is_spellable value ≡ true → needs_quotes value ≡ false
    → Spells w false [] [] (flat_map spelled_byte value) value outside
unquoted w reads value all other =
    let (spaces, found) = or_parts (begins_with_space value || ends_with_space value) _ other in
    let (first, last) = or_parts (begins_with_space value) (ends_with_space value) spaces in
    spelled_outside w reads value all found first last

spelled_by_git : (w : ℕ → ℕ) → w 32 ≡ 32 → (value : List ℕ) → is_spellable value ≡ true
    → Spells w false [] [] (git_spelled value) value outside
spelled_by_git w reads value all =
    elim (cases_Bool (needs_quotes value)) [
      | inl is ↦ rw is (quote refl (spelled_quoted w value [] all))
      | inr other ↦ rw other (unquoted w reads value all other)
    ]

pub git_spelling : (value : List ℕ) → is_spellable value ≡ true → IsSpelling (git_spelled value) value
git_spelling value all = (spelled_by_git itself refl value all, spelled_by_git as_space refl value all)

-- no bytes spell a value with a NUL
kept_spellable : (value held : List ℕ) → is_spellable value ≡ true → is_spellable held ≡ true
    → is_spellable (kept value held) ≡ true
kept_spellable [] held all blanks = refl
kept_spellable (b ∷ value) held all blanks =
    rw (list_all-append (λ c. not (c == 0)) (b ∷ value) held, all, blanks)

pushed_spellable : (value : List ℕ) (b : ℕ) → is_spellable value ≡ true → b ≢ 0
    → is_spellable (value ++ b ∷ []) ≡ true
pushed_spellable value b all some =
    let this : not (b == 0) ≡ true = grind (arith, nat_tests) in
    rw (list_all-append (λ c. not (c == 0)) value (b ∷ []), all, this)

escaped_is_some : (e c : ℕ) → escape e ≡ Some c → c ≢ 0
escaped_is_some e c is none = grind (arith, nat_tests)

spelled_spellable : {q : Bool} {value held raw text : List ℕ} {e : Ending}
    → Spells itself q value held raw text e
    → is_spellable value ≡ true → is_spellable held ≡ true → is_spellable text ≡ true
spelled_spellable ends_outside all blanks = all
spelled_spellable ends_inside all blanks = all
spelled_spellable (ends_at_backslash {value = value} {held = held} e) all blanks =
    kept_spellable value held all blanks
spelled_spellable (quote {value = value} {held = held} e s) all blanks =
    spelled_spellable s (kept_spellable value held all blanks) refl
spelled_spellable (escaped {e = e} {c = c} {value = value} {held = held} is l s) all blanks =
    spelled_spellable s (pushed_spellable (kept value held) c (kept_spellable value held all blanks) (escaped_is_some e c l)) refl
spelled_spellable (continued {value = value} {held = held} e l s) all blanks =
    spelled_spellable s (kept_spellable value held all blanks) refl
spelled_spellable (continued_after_return {value = value} {held = held} e l n s) all blanks =
    spelled_spellable s (kept_spellable value held all blanks) refl
spelled_spellable (blank {b = b} {held = held} is s) all blanks =
    spelled_spellable s all (pushed_spellable held b blanks (blank_inner b is).0)
spelled_spellable (plain {quoted = q} {b = b} {value = value} {held = held} is s) all blanks =
    let so_far = kept_spellable value held all blanks in
    spelled_spellable s (pushed_spellable (kept value held) b so_far (plain_inner q b is).0) refl

pub not_spelled : (value : List ℕ) → is_spellable value ≡ false → HasNoSpelling value
not_spelled value refused raw s = true≢false (sym (spelled_spellable s refl refl) ∙ refused)
