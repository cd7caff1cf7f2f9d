-- The scan of a value.
use Rattle.std.proofs.Common.{◌≡◌, ◌≢◌, ℕ, ◌+◌, Bool, true, false, not, List, [], ◌∷◌, ◌++◌, Option, Some}
use Rattle.std.proofs.Common.{None, is_some, refl, sym, ap, ◌∙◌, append_assoc, append-nil, arith, inl, inr, subst}
use Rattle.std.proofs.Common.{◌⊎◌, ◌==◌, ◌≤◌, if◌then◌else◌, length, length-append}
use Rattle.std.proofs.lemmas.List.{append_cancel_right}
use Rattle.std.proofs.lemmas.List.Sums.{count_by-le-length}
use Rattle.std.specs.List.{list_all}
use Rattle.std.proofs.lemmas.Bool.{cases_Bool, and_parts}
use Rattle.std.proofs.lemmas.Bool.Decides.{nat_tests}
use Rattle.config_file.specs.declared.errors.Why.TheVariants.{BadLine, Nul}
use Rattle.config_file.specs.Bytes.{is_plain, is_blank, is_comment_sign, is_comment_byte, EndsText}
use Rattle.config_file.specs.Header.{why_at}
use Rattle.config_file.specs.Value.{Ending, outside, inside, at_backslash, Spells, itself, ends_outside}
use Rattle.config_file.specs.Value.{ends_inside, ends_at_backslash, quote, escaped, continued}
use Rattle.config_file.specs.Value.{continued_after_return, blank, plain, IsPart, EndsValue, IsNoEscape}
use Rattle.config_file.specs.Value.{line_feeds, escape, TakesValue, closed, open_end, ValueStops, nul}
use Rattle.config_file.specs.Value.{unclosed, unclosed_open_end, no_escape}
use Rattle.config_file.specs.Reading.Scans.{PassedValue, HasLinesBefore, EndsScan, Escapes, letter, line}
use Rattle.config_file.specs.Reading.Scans.{line_after_return, begins_with_mark, goes_on, is_plain_byte}
use Rattle.config_file.specs.Runs.{Run, StopsRun}
use Rattle.config_file.proofs.LineEnds.{line_feeds_append, line_feeds_none, all_more}

pub passed_none : (text : List ℕ) → PassedValue text false text
passed_none text = record { raw = []; value = []; held = []; joined = refl; extends = λ more spelled o h. h }

-- if the scan has passed these bytes too, it goes on with this value and this many held blanks
pub passed_more : {text at rest value held : List ℕ} {q r : Bool} (piece : List ℕ)
    → (passed : PassedValue text q at) → at ≡ piece ++ rest
    → ((more spelled : List ℕ) (o : Ending) → Spells itself r value held more spelled o → Spells itself q passed.value passed.held (piece ++ more) spelled o)
    → PassedValue text r rest
passed_more {rest = rest} {value = value} {held = held} piece passed e spells =
    record {
      raw = passed.raw ++ piece;
      value = value;
      held = held;
      joined = passed.joined ∙ rw e (sym (append_assoc passed.raw piece rest));
      extends =
          λ more spelled o h. rw (append_assoc passed.raw piece more) (passed.extends (piece ++ more) spelled o (spells more spelled o h));
    }

pub passed_quote : {text rest : List ℕ} {q : Bool} {b : ℕ} (at : List ℕ) → PassedValue text q at
    → at ≡ b ∷ rest → b ≡ 34 → PassedValue text (not q) rest
passed_quote {b = b} at passed e is_quote =
    passed_more (b ∷ []) passed e (λ more spelled o h. quote is_quote h)

pub passed_escape : {text rest after : List ℕ} {q : Bool} {b : ℕ} (at : List ℕ) → PassedValue text q at
    → at ≡ b ∷ rest → b ≡ 92
    → Escapes rest after → PassedValue text q after
passed_escape {b = b} at passed e is_backslash (letter {e = l} s is) =
    passed_more (b ∷ l ∷ []) passed (e ∙ ap (◌∷◌ b) s) (λ more spelled o h. escaped is_backslash is h)
passed_escape {b = b} at passed e is_backslash (line {e = l} s is) =
    passed_more (b ∷ l ∷ []) passed (e ∙ ap (◌∷◌ b) s) (λ more spelled o h. continued is_backslash is h)
passed_escape {b = b} at passed e is_backslash (line_after_return {e = l} {f = f} s is next) =
    passed_more (b ∷ l ∷ f ∷ []) passed (e ∙ ap (◌∷◌ b) s)
    (λ more spelled o h. continued_after_return is_backslash is next h)

plain_quoted : (b : ℕ) → goes_on true b ≡ true → b ≢ 34 → b ≢ 92 → is_plain true b ≡ true
plain_quoted b on not_quote not_backslash = grind (arith, nat_tests)

plain_unquoted : (b : ℕ) → goes_on false b ≡ true → b ≢ 34 → b ≢ 92 → is_blank b ≡ false
    → is_plain false b ≡ true
plain_unquoted b on not_quote not_backslash not_blank = grind (arith, nat_tests)

pub passed_byte : {text rest : List ℕ} {b : ℕ} (q : Bool) (at : List ℕ) → PassedValue text q at
    → at ≡ b ∷ rest → goes_on q b ≡ true → b ≢ 34 → b ≢ 92 → PassedValue text q rest
passed_byte {b = b} true at passed e on not_quote not_backslash =
    passed_more (b ∷ []) passed e (λ more spelled o h. plain (plain_quoted b on not_quote not_backslash) h)
passed_byte {b = b} false at passed e on not_quote not_backslash =
    elim (cases_Bool (is_blank b)) [
      | inl is ↦ passed_more (b ∷ []) passed e (λ more spelled o h. blank is h)
      | inr other ↦
          let is = plain_unquoted b on not_quote not_backslash other in
          passed_more (b ∷ []) passed e (λ more spelled o h. plain is h)
    ]

plain_passes : (q : Bool) (b : ℕ) → is_plain_byte b ≡ true → (goes_on q b ≡ true) × (b ≢ 34) × (b ≢ 92)
plain_passes true b is = (grind (arith, nat_tests), grind (arith, nat_tests), grind (arith, nat_tests))
plain_passes false b is = (grind (arith, nat_tests), grind (arith, nat_tests), grind (arith, nat_tests))

-- the scan passes a run of bytes as it passes each of them
pub passed_run : {text after : List ℕ} (q : Bool) (at bytes : List ℕ) → PassedValue text q at
    → at ≡ bytes ++ after → list_all is_plain_byte bytes ≡ true → PassedValue text q after
passed_run q at [] passed e all = rw e at passed
passed_run {after = after} q at (b ∷ bytes) passed e all =
    let (here, more) = and_parts (is_plain_byte b) (list_all is_plain_byte bytes) all in
    let (on, not_quote, not_backslash) = plain_passes q b here in
    passed_run q (bytes ++ after) bytes (passed_byte q at passed e on not_quote not_backslash) refl more

passed_part : {text at : List ℕ} (q : Bool) → (passed : PassedValue text q at) → IsPart q passed.raw
passed_part true passed =
    (passed.value, rw (append-nil passed.raw) at (passed.extends [] _ inside ends_inside))
passed_part false passed =
    (passed.value, rw (append-nil passed.raw) at (passed.extends [] _ outside ends_outside))

-- the bytes that `before` returns are those that the scan has passed
pub part : {text at : List ℕ} (q : Bool) (raw : List ℕ) → PassedValue text q at → text ≡ raw ++ at
    → IsPart q raw
part {at = at} q raw passed joined =
    let same : passed.raw ≡ raw = append_cancel_right passed.raw raw at (sym passed.joined ∙ joined) in
    rw same at (passed_part q passed)

ends_text : (at : List ℕ) → EndsScan true at → EndsText at
ends_text [] h = tt
ends_text (b ∷ rest) h = h

pub ends_in_quotes : {text at : List ℕ} (q : Bool) (raw : List ℕ) → PassedValue text q at → EndsScan q at
    → q ≡ true → text ≡ raw ++ at
    → ValueStops text (line_feeds raw) (why_at at)
ends_in_quotes {at = at} true raw passed h e joined =
    unclosed raw at joined (part true raw passed joined) (ends_text at h)
ends_in_quotes false raw passed h e joined = cc

nul_byte : (b : ℕ) (rest : List ℕ) → why_at (b ∷ rest) ≡ Nul → b ≡ 0
nul_byte b rest e =
    elim (cases_Bool (b == 0)) [ inl is ↦ grind (arith, nat_tests) | inr other ↦ let no : BadLine ≡ Nul = rw other at e in cc ]

pub ends_at_nul : {text : List ℕ} (q : Bool) (at raw : List ℕ) → PassedValue text q at → q ≡ false
    → why_at at ≡ Nul → text ≡ raw ++ at
    → ValueStops text (line_feeds raw) Nul
ends_at_nul true at raw passed off e joined = cc
ends_at_nul false [] raw passed off e joined = cc
ends_at_nul false (b ∷ rest) raw passed off e joined =
    nul raw rest joined (part false raw passed joined) (nul_byte b rest e)

pub bad_unless_nul : (at : List ℕ) → ¬ (why_at at ≡ Nul) → why_at at ≡ BadLine
bad_unless_nul [] other = refl
bad_unless_nul (b ∷ rest) other = elim (cases_Bool (b == 0)) [
  | inl is ↦ absurd (other (ap (λ x. if x then Nul else BadLine) is))
  | inr none ↦ ap (λ x. if x then Nul else BadLine) none
]

not_nul : (b : ℕ) (rest : List ℕ) → why_at (b ∷ rest) ≡ BadLine → b ≢ 0
not_nul b rest e is = let no : Nul ≡ BadLine = rw is at e in cc

ends_byte : (b : ℕ) → goes_on false b ≡ false → b ≢ 0 → (b ≡ 10) ⊎ (is_comment_sign b ≡ true)
ends_byte b h not_nul =
    elim (cases_Bool (is_comment_sign b)) [ inl is ↦ inr is | inr other ↦ inl (grind (arith, nat_tests)) ]

ends_value : (at : List ℕ) → EndsScan false at → why_at at ≡ BadLine → EndsValue at
ends_value [] h e = tt
ends_value (b ∷ rest) h e = ends_byte b h (not_nul b rest e)

pub ends_closed : {text : List ℕ} (q : Bool) (at raw : List ℕ) → PassedValue text q at → EndsScan q at
    → q ≡ false → why_at at ≡ BadLine → text ≡ raw ++ at
    → TakesValue text raw (line_feeds raw) at
ends_closed true at raw passed h off e joined = cc
ends_closed false at raw passed h off e joined =
    let (value, spells) = part false raw passed joined in
    closed joined spells (ends_value at h e)

plain_along : (b : ℕ) → is_plain_byte b ≡ true → is_comment_byte b ≡ true
plain_along b is = grind (arith, nat_tests)

-- plain bytes end no line
plain_line : (raw : List ℕ) → list_all is_plain_byte raw ≡ true → line_feeds raw ≡ 0
plain_line raw all = line_feeds_none raw (all_more is_plain_byte is_comment_byte plain_along raw all)

-- the LFs before a rest are those before an earlier rest, and those between the two
lines_more : {text at : List ℕ} {q : Bool} {lines : ℕ} (piece rest : List ℕ) (all : ℕ) → PassedValue text q at
    → at ≡ piece ++ rest → lines + line_feeds piece ≡ all → HasLinesBefore text lines at
    → HasLinesBefore text all rest
lines_more piece rest all passed e sum has raw joined =
    let whole : (passed.raw ++ piece) ++ rest ≡ raw ++ rest =
    append_assoc passed.raw piece rest ∙ ap (◌++◌ passed.raw) (sym e) ∙ sym passed.joined ∙ joined in
    let same = append_cancel_right (passed.raw ++ piece) raw rest whole in
    ap line_feeds (sym same) ∙ line_feeds_append passed.raw piece
    ∙ ap (λ n. n + line_feeds piece) (has passed.raw passed.joined) ∙ sum

-- where a piece begins a text, its LFs precede the rest
lines_of : {text : List ℕ} {lines : ℕ} (piece rest : List ℕ) → text ≡ piece ++ rest → line_feeds piece ≡ lines
    → HasLinesBefore text lines rest
lines_of piece rest e count raw joined =
    ap line_feeds (append_cancel_right raw piece rest (sym joined ∙ e)) ∙ count

no_line : (b : ℕ) → is_comment_byte b ≡ true → line_feeds (b ∷ []) ≡ 0
no_line b other = line_feeds_none (b ∷ []) (rw other)

letter_is_no_line : (e : ℕ) → is_some (escape e) ≡ true → is_comment_byte e ≡ true
letter_is_no_line e some = grind (arith, nat_tests)

pub letter_lines : {e : ℕ} {text rest : List ℕ} → text ≡ e ∷ rest → is_some (escape e) ≡ true
    → HasLinesBefore text 0 rest
letter_lines {e = e} s some = lines_of (e ∷ []) _ s (no_line e (letter_is_no_line e some))

pub line_lines : {e : ℕ} {text rest : List ℕ} → text ≡ e ∷ rest → e ≡ 10 → HasLinesBefore text 1 rest
line_lines {e = e} s is = lines_of (e ∷ []) _ s (rw is refl)

pub return_lines : {e f : ℕ} {text rest after : List ℕ} → text ≡ e ∷ rest → rest ≡ f ∷ after → e ≡ 13 → f ≡ 10
    → HasLinesBefore text 1 after
return_lines {e = e} {f = f} s t is next = lines_of (e ∷ f ∷ []) _ (s ∙ ap (◌∷◌ e) t) (rw (is, next) refl)

-- no LF is passed in a byte that ends no line, and in plain bytes after it
pub lines_over : {text at rest bytes after : List ℕ} {q : Bool} {b lines : ℕ} → PassedValue text q at → at ≡ b ∷ rest
    → is_comment_byte b ≡ true → Run is_plain_byte rest bytes after → HasLinesBefore text lines at
    → HasLinesBefore text lines after
lines_over {bytes = bytes} {after = after} {b = b} {lines = lines} passed e other run has =
    let front = line_feeds_append (b ∷ []) bytes in
    let first = no_line b other in
    let plains = plain_line bytes run.pass in
    lines_more (b ∷ bytes) after lines passed (e ∙ ap (◌∷◌ b) run.joined) (omega arith) has

escaped_piece : {rest after : List ℕ} → Escapes rest after → (piece : List ℕ) × (rest ≡ piece ++ after)
escaped_piece (letter {e = e} s is) = (e ∷ [], s)
escaped_piece (line {e = e} s is) = (e ∷ [], s)
escaped_piece (line_after_return {e = e} {f = f} s is next) = (e ∷ f ∷ [], s)

pub escape_shortens : {rest after : List ℕ} → Escapes rest after → length after ≤ length rest
escape_shortens {rest = rest} {after = after} escapes =
    let (piece, joined) = escaped_piece escapes in
    let sum = ap length joined ∙ length-append piece after in
    omega arith

pub goes_on_along : (q : Bool) (b : ℕ) → goes_on q b ≡ true → is_comment_byte b ≡ true
goes_on_along true b on = grind (arith, nat_tests)
goes_on_along false b on = grind (arith, nat_tests)

-- a text has no fewer bytes than the LFs that have been passed, and the bytes that are left
pub lines_within : {text at : List ℕ} {q : Bool} {lines : ℕ} → PassedValue text q at → HasLinesBefore text lines at
    → lines + length at ≤ length text
lines_within {text = text} {at = at} passed has =
    let sum = ap length passed.joined ∙ length-append passed.raw at in
    let count = has passed.raw passed.joined in
    let fit = count_by-le-length (λ b. b == 10) passed.raw in
    omega arith

-- after a backslash, the line ends that it escapes are passed
pub lines_over_escape : {text at rest next bytes after : List ℕ} {q : Bool} {b lines ends : ℕ} → PassedValue text q at
    → at ≡ b ∷ rest → b ≡ 92 → Escapes rest next × HasLinesBefore rest ends next → Run is_plain_byte next bytes after
    → HasLinesBefore text lines at → HasLinesBefore text (lines + ends) after
lines_over_escape {rest = rest} {bytes = bytes} {after = after} {b = b} {lines = lines} {ends = ends} passed e is (escapes, counted) run has =
    let (piece, joined) = escaped_piece escapes in
    let other : is_comment_byte b ≡ true = rw is refl in
    let front = line_feeds_append (b ∷ []) (piece ++ bytes) in
    let middle = line_feeds_append piece bytes in
    let first = no_line b other in
    let escaped_lines = counted piece joined in
    let plains = plain_line bytes run.pass in
    let whole : rest ≡ (piece ++ bytes) ++ after =
    joined ∙ ap (◌++◌ piece) run.joined ∙ sym (append_assoc piece bytes after) in
    lines_more (b ∷ piece ++ bytes) after (lines + ends) passed (e ∙ ap (◌∷◌ b) whole) (omega arith) has

plain_scan_ends : (rest : List ℕ) → StopsRun is_plain_byte rest → begins_with_mark rest ≡ false → EndsScan false rest
plain_scan_ends [] stops none = tt
plain_scan_ends (b ∷ rest) stops none = grind (arith, nat_tests)

-- the plain bytes at the start of a text have been passed
pub passed_plain : {text raw rest : List ℕ} → Run is_plain_byte text raw rest → PassedValue text false rest
passed_plain {text = text} {raw = raw} run = passed_run false text raw (passed_none text) run.joined run.pass

pub plain_lines : {text raw rest : List ℕ} → Run is_plain_byte text raw rest → HasLinesBefore text 0 rest
plain_lines {raw = raw} run = lines_of raw _ run.joined (plain_line raw run.pass)

-- plain bytes that no mark follows are a value, or are refused at a NUL
pub takes_plain : {text raw rest : List ℕ} → Run is_plain_byte text raw rest → begins_with_mark rest ≡ false
    → why_at rest ≡ BadLine → TakesValue text raw 0 rest
takes_plain {text = text} {raw = raw} {rest = rest} run none bad =
    subst (λ lines. TakesValue text raw lines rest) (plain_line raw run.pass)
    (ends_closed false rest raw (passed_plain run) (plain_scan_ends rest run.longest none) refl bad run.joined)

pub stops_plain : {text raw rest : List ℕ} → Run is_plain_byte text raw rest → why_at rest ≡ Nul
    → ValueStops text 0 (why_at rest)
stops_plain {text = text} {raw = raw} {rest = rest} run is =
    rw is (subst (λ lines. ValueStops text lines Nul) (plain_line raw run.pass)
    (ends_at_nul false rest raw (passed_plain run) refl is run.joined))

pub stops_after_backslash : {text rest : List ℕ} (q : Bool) (at raw : List ℕ) → PassedValue text q at
    → at ≡ 92 ∷ rest → IsNoEscape rest → text ≡ raw ++ at
    → ValueStops text (line_feeds raw) (why_at rest)
stops_after_backslash {rest = rest} q at raw passed e is_none joined =
    no_escape q raw rest (joined ∙ ap (◌++◌ raw) e) (part q raw passed joined) refl is_none

pub stops_at_open_end : {text rest : List ℕ} (q : Bool) (at raw : List ℕ) → PassedValue text q at → q ≡ true
    → at ≡ 92 ∷ rest → rest ≡ [] → text ≡ raw ++ at
    → ValueStops text (line_feeds raw + 1) BadLine
stops_at_open_end true at raw passed on e none joined =
    unclosed_open_end raw (joined ∙ ap (◌++◌ raw) (e ∙ ap (◌∷◌ 92) none)) (part true raw passed joined) refl
stops_at_open_end false at raw passed on e none joined = cc

pub ends_open_here : {text rest : List ℕ} (q : Bool) (at : List ℕ) → PassedValue text q at → q ≡ false
    → at ≡ 92 ∷ rest → rest ≡ []
    → TakesValue text text (line_feeds text + 1) rest
ends_open_here true at passed off e none = cc
ends_open_here {text = text} false at passed off e none =
    let whole : passed.raw ++ 92 ∷ [] ≡ text =
    sym (passed.joined ∙ ap (◌++◌ passed.raw) (e ∙ ap (◌∷◌ 92) none)) in
    rw none (open_end (rw whole at (passed.extends (92 ∷ []) _ at_backslash (ends_at_backslash refl))))

-- a backslash at the end of a text ends no line
pub lines_at_end : {text rest : List ℕ} {lines : ℕ} (at : List ℕ) → HasLinesBefore text lines at → at ≡ 92 ∷ rest
    → rest ≡ [] → (raw : List ℕ) → text ≡ raw ++ at → lines ≡ line_feeds text
lines_at_end {text = text} at has e none raw joined =
    let whole : text ≡ raw ++ 92 ∷ [] = joined ∙ ap (◌++◌ raw) (e ∙ ap (◌∷◌ 92) none) in
    let all : line_feeds text ≡ line_feeds raw + 0 = ap line_feeds whole ∙ line_feeds_append raw (92 ∷ []) in
    let before = has raw joined in
    omega arith

some_from : (o : Option ℕ) → is_some o ≡ true → (c : ℕ) × (o ≡ Some c)
some_from None h = cc
some_from (Some c) h = (c, refl)

pub escape_some : {e : ℕ} {text rest : List ℕ} → text ≡ e ∷ rest → is_some (escape e) ≡ true
    → Escapes text rest
escape_some {e = e} s some = let (c, is) = some_from (escape e) some in letter s is

pub line_end_after_return : {e f : ℕ} {text rest after : List ℕ} → text ≡ e ∷ rest → rest ≡ f ∷ after
    → e ≡ 13 → f ≡ 10 → Escapes text after
line_end_after_return {e = e} s t is next = line_after_return (s ∙ ap (◌∷◌ e) t) is next
