-- The scan of a subsection.
use Rattle.std.proofs.Common.{◌≡◌, ℕ, true, false, List, [], ◌∷◌, ◌++◌, refl, sym, ◌∙◌, append_assoc, append-nil}
use Rattle.std.proofs.Common.{arith, ◌≢◌, ◌≤◌, ◌-◌, suc, length, not, nat_eq, slice_index_or, ap}
use Rattle.std.proofs.lemmas.List.{append_cancel_right}
use Rattle.std.proofs.lemmas.Bool.{and_parts}
use Rattle.std.proofs.lemmas.Bool.Decides.{nat_tests}
use Rattle.std.specs.List.{list_all}
use Rattle.config_file.specs.Bytes.{is_text_byte, is_plain_in_quotes, EndsText}
use Rattle.config_file.specs.Subsection.{ends, escaped, plain, SpellsSubsection, IsSubsection, TakesSubsection}
use Rattle.config_file.specs.Subsection.{StopsInSubsection, stops, stops_escaped}
use Rattle.config_file.specs.Reading.Scans.{PassedSubsection}
use Rattle.config_file.specs.Runs.{StopsRun}

pub passed_none : (text : List ℕ) → PassedSubsection text text
passed_none text = record { raw = []; joined = refl; extends = λ more spelled h. (spelled, h) }

pub passed_plain : {text rest : List ℕ} {b : ℕ} (at : List ℕ) → PassedSubsection text at → at ≡ b ∷ rest
    → is_plain_in_quotes b ≡ true → PassedSubsection text rest
passed_plain {rest = rest} {b = b} at passed e is_plain =
    record {
      raw = passed.raw ++ b ∷ [];
      joined = passed.joined ∙ (rw e (sym (append_assoc passed.raw (b ∷ []) rest)));
      extends =
          λ more spelled h. rw (append_assoc passed.raw (b ∷ []) more) (passed.extends (b ∷ more) (b ∷ spelled) (plain is_plain h));
    }

pub passed_escaped : {text rest after : List ℕ} {b e : ℕ} (at : List ℕ) → PassedSubsection text at
    → at ≡ b ∷ rest → rest ≡ e ∷ after → b ≡ 92 → is_text_byte e ≡ true → PassedSubsection text after
passed_escaped {after = after} {b = b} {e = e} at passed p q is_backslash is_text =
    record {
      raw = passed.raw ++ b ∷ e ∷ [];
      joined = passed.joined ∙ (rw (p, q) (sym (append_assoc passed.raw (b ∷ e ∷ []) after)));
      extends =
          λ more spelled h. rw (append_assoc passed.raw (b ∷ e ∷ []) more) (passed.extends (b ∷ e ∷ more) (e ∷ spelled) (escaped is_backslash is_text h));
    }

pub passed_is_subsection : {text at : List ℕ} → (passed : PassedSubsection text at) → IsSubsection passed.raw
passed_is_subsection passed = rw (append-nil passed.raw) at (passed.extends [] [] ends)

pub takes : {text rest : List ℕ} {b : ℕ} (at raw : List ℕ) → PassedSubsection text at → at ≡ b ∷ rest
    → b ≡ 34 → text ≡ raw ++ at → TakesSubsection text raw rest
takes {rest = rest} at raw passed e is_quote joined =
    let same : passed.raw ≡ raw = append_cancel_right passed.raw raw at (sym passed.joined ∙ joined) in
    record { is_subsection = rw same at (passed_is_subsection passed); joined = joined ∙ rw (e, is_quote) }

pub stops_here : {text : List ℕ} (at : List ℕ) → PassedSubsection text at → EndsText at
    → StopsInSubsection text at
stops_here at passed h = stops (passed_is_subsection passed) passed.joined h

pub stops_after_backslash : {text rest : List ℕ} {b : ℕ} (at : List ℕ) → PassedSubsection text at
    → at ≡ b ∷ rest → b ≡ 92 → EndsText rest → StopsInSubsection text rest
stops_after_backslash {rest = rest} at passed e is_backslash h =
    stops_escaped (passed_is_subsection passed) (passed.joined ∙ rw e) is_backslash h

-- a run of bytes that spell themselves is passed as each of them is
pub passed_run : {text after : List ℕ} (at bytes : List ℕ) → PassedSubsection text at → at ≡ bytes ++ after
    → list_all is_plain_in_quotes bytes ≡ true → PassedSubsection text after
passed_run at [] passed e all = rw e at passed
passed_run {after = after} at (b ∷ bytes) passed e all =
    let (here, more) = and_parts (is_plain_in_quotes b) (list_all is_plain_in_quotes bytes) all in
    passed_run (bytes ++ after) bytes (passed_plain at passed e here) refl more

ends_text : (b : ℕ) → is_plain_in_quotes b ≡ false → b ≢ 34 → b ≢ 92 → is_text_byte b ≡ false
ends_text b not_plain not_quote not_backslash = grind (arith, nat_tests)

-- a byte that ends a run of them, and is no quote and no backslash, ends the text
pub ends_here : {at rest : List ℕ} {b : ℕ} → at ≡ b ∷ rest → StopsRun is_plain_in_quotes at → b ≢ 34 → b ≢ 92
    → EndsText at
ends_here {b = b} e longest not_quote not_backslash =
    rw e (ends_text b (rw e at longest) not_quote not_backslash)

-- a byte other than LF, NUL, a quote and a backslash spells itself
pub plain_byte : (b : ℕ) → is_text_byte b ≡ true → b ≢ 34 → b ≢ 92 → is_plain_in_quotes b ≡ true
plain_byte b text quote backslash = grind (arith, nat_tests)

-- the last byte of a text, or 0 if it has none
abbrev last : List ℕ → ℕ
last [] = 0
last (b ∷ []) = b
last (b ∷ c ∷ text) = last (c ∷ text)

last_is : (text : List ℕ) → 1 ≤ length text → slice_index_or text (length text - 1) 0 ≡ last text
last_is [] some = absurd (omega arith)
last_is (b ∷ []) some = refl
last_is (b ∷ c ∷ text) some =
    let next : length (b ∷ c ∷ text) - 1 ≡ suc (length (c ∷ text) - 1) = omega arith in
    rw next (last_is (c ∷ text) (omega arith))

last_more : (front text : List ℕ) → 1 ≤ length text → last (front ++ text) ≡ last text
last_more [] text some = refl
last_more (b ∷ []) [] some = absurd (omega arith)
last_more (b ∷ []) (c ∷ text) some = refl
last_more (b ∷ d ∷ front) text some = last_more (d ∷ front) text some

-- a subsection and the bytes that spell it end with the same byte
last_spelled : {raw spelled : List ℕ} → SpellsSubsection raw spelled → last raw ≡ last spelled
last_spelled ends = refl
last_spelled (escaped is text ends) = refl
last_spelled (escaped is text (escaped next_is next s)) = last_spelled (escaped next_is next s)
last_spelled (escaped is text (plain next s)) = last_spelled (plain next s)
last_spelled (plain is ends) = refl
last_spelled (plain is (escaped next_is next s)) = last_spelled (escaped next_is next s)
last_spelled (plain is (plain next s)) = last_spelled (plain next s)

spelled_some : {raw spelled : List ℕ} → SpellsSubsection raw spelled → 1 ≤ length raw → 1 ≤ length spelled
spelled_some ends some = some
spelled_some (escaped is text s) some = omega arith
spelled_some (plain is s) some = omega arith

apart : (a b : ℕ) → not (nat_eq a b) ≡ true → a ≢ b
apart a b other same = grind (arith, nat_tests)

-- texts that end with different bytes differ
pub ends_apart : (raw text : List ℕ) → 1 ≤ length raw → 1 ≤ length text
    → not (nat_eq (slice_index_or raw (length raw - 1) 0) (slice_index_or text (length text - 1) 0)) ≡ true
    → (spelled front before : List ℕ) → SpellsSubsection raw spelled → before ++ spelled ≢ front ++ text
ends_apart raw text some_raw some_text other spelled front before s same =
    apart _ _ other (last_is raw some_raw ∙ last_spelled s ∙ sym (last_more before spelled (spelled_some s some_raw))
    ∙ ap last same ∙ last_more front text some_text ∙ sym (last_is text some_text))
