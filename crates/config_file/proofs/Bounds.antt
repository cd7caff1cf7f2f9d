-- How many bytes of a text are left, and how many lines have been passed.
use Rattle.std.proofs.Common.{◌≡◌, ℕ, ◌+◌, ◌≤◌, ◌<◌, Bool, true, List, [], ◌∷◌, ◌++◌, Option, length, sym, ap}
use Rattle.std.proofs.Common.{◌∙◌, subst, arith, length-append, ◌==◌}
use Rattle.std.proofs.lemmas.Bool.{true≢false}
use Rattle.std.proofs.lemmas.List.Sums.{count_by-le-length}
use Rattle.std.specs.Char.{is_ascii_alphabetic}
use Rattle.config_file.specs.declared.errors.Why.{Why}
use Rattle.config_file.specs.Runs.{Run, StopsRun}
use Rattle.config_file.specs.Header as header
use Rattle.config_file.specs.Header.{Section, Header, HeaderStops}
use Rattle.config_file.specs.Value as value
use Rattle.config_file.specs.Value.{TakesValue, ValueStops, line_feeds}
use Rattle.config_file.specs.File as file
use Rattle.config_file.specs.File.{TakesKey, TakesEntry, EntryStops}
use Rattle.config_file.proofs.SpelledHeaders.{letter_is_key_byte}

pub length_joined : (text front rest : List ℕ) → text ≡ front ++ rest
    → length text ≡ length front + length rest
length_joined text front rest e = ap length e ∙ length-append front rest

pub run_shortens : {test : ℕ → Bool} {text run rest : List ℕ} → Run test text run rest
    → length rest ≤ length text
run_shortens {text = text} {run = run} {rest = rest} h =
    let e = length_joined text run rest h.joined in
    omega arith

pub header_shortens : {text rest : List ℕ} {section : Section} → Header text section rest
    → length rest < length text
header_shortens (header.plain {b = b} {text = text} {name = name} {rest = rest} run some e) =
    let joined = length_joined text name (b ∷ rest) run.joined in omega arith
header_shortens (header.quoted {text = text} {name = name} {inner = inner} opens (header.closes {b = b} {raw = raw} {rest = rest} takes e)) =
    let first = length_joined text name opens.blanked opens.name_run.joined in
    let second = length_joined opens.blanked opens.blanks (opens.quote ∷ inner) opens.blank_run.joined in
    let third = length_joined inner raw (34 ∷ b ∷ rest) takes.joined in
    omega arith

pub header_stops_soon : {text : List ℕ} {lines : ℕ} {why : Why} → HeaderStops text lines why
    → lines ≤ 1
header_stops_soon (header.name run none header.at_end) = omega arith
header_stops_soon (header.name run none header.empty) = omega arith
header_stops_soon (header.name run none (header.not_closed e)) = omega arith
header_stops_soon (header.blanks run more some h) = omega arith
header_stops_soon (header.subsection opens (header.within h)) = omega arith
header_stops_soon (header.subsection opens (header.closed h k l)) = omega arith
header_stops_soon (header.subsection opens (header.closed_at_line_end h l)) = omega arith

pub line_feeds_fit : (raw : List ℕ) → line_feeds raw ≤ length raw
line_feeds_fit raw = omega (arith, count_by-le-length (λ b. b == 10) raw)

pub value_bound : {text raw rest : List ℕ} {lines : ℕ} → TakesValue text raw lines rest
    → lines + length rest ≤ length text + 1
value_bound (value.closed {raw = raw} {text = text} {rest = rest} joined spells ends) =
    let e = length_joined text raw rest joined in
    omega (arith, line_feeds_fit raw)
value_bound (value.open_end {raw = raw} spells) = omega (arith, line_feeds_fit raw)

pub value_stops_bound : {text : List ℕ} {lines : ℕ} {why : Why} → ValueStops text lines why
    → lines ≤ length text
value_stops_bound (value.nul {b = b} {text = text} raw rest joined part e) =
    omega (arith, length_joined text raw (b ∷ rest) joined, line_feeds_fit raw)
value_stops_bound (value.unclosed {text = text} raw rest joined part e) =
    let f = length_joined text raw rest joined in omega (arith, line_feeds_fit raw)
value_stops_bound (value.unclosed_open_end {b = b} {text = text} raw joined part e) =
    let f = length_joined text raw (b ∷ []) joined in omega (arith, line_feeds_fit raw)
value_stops_bound (value.no_escape {b = b} {text = text} q raw rest joined part e is_none) =
    omega (arith, length_joined text raw (b ∷ rest) joined, line_feeds_fit raw)

pub key_shortens : {text key rest : List ℕ} → TakesKey text key rest → length rest ≤ length text
key_shortens takes = let f = run_shortens takes.key_run in let g = run_shortens takes.space_run in omega arith

-- a key that begins with a letter is not empty
key_taken : {test : ℕ → Bool} {b : ℕ} {text rest : List ℕ} (run : List ℕ) → test b ≡ true
    → Run test (b ∷ text) run rest → length rest ≤ length text
key_taken {test = test} {b = b} {text = text} {rest = rest} [] pass h =
    let stops = subst (λ x. StopsRun test x) (sym h.joined) h.longest in
    absurd (true≢false (sym pass ∙ stops))
key_taken {b = b} {text = text} {rest = rest} (r ∷ run) pass h =
    let e = length_joined (b ∷ text) (r ∷ run) rest h.joined in
    omega arith

pub entry_bound : {b lines : ℕ} {text key rest : List ℕ} {v : Option (List ℕ)}
    → is_ascii_alphabetic b ≡ true → TakesEntry (b ∷ text) key v lines rest
    → lines + length rest ≤ length text
entry_bound {b = b} letter (file.alone {key = key} takes end) =
    let f = key_taken key (letter_is_key_byte b letter) takes.key_run in
    let g = run_shortens takes.space_run in
    omega arith
entry_bound {b = b} letter (file.valued {key = key} takes e taken) =
    let f = key_taken key (letter_is_key_byte b letter) takes.key_run in
    let g = run_shortens takes.space_run in
    omega (arith, value_bound taken)

pub entry_stops_bound : {text : List ℕ} {lines : ℕ} {why : Why} → EntryStops text lines why
    → lines ≤ length text
entry_stops_bound (file.key takes h l) = omega arith
entry_stops_bound (file.value takes e stops) =
    let f = key_shortens takes in
    omega (arith, value_stops_bound stops)

pub entry_bound_at : {b lines : ℕ} {text key rest : List ℕ} {v : Option (List ℕ)} (at : List ℕ)
    → at ≡ b ∷ text → is_ascii_alphabetic b ≡ true → TakesEntry at key v lines rest
    → lines + length rest ≤ length at
entry_bound_at at e letter taken = let bound = entry_bound letter (rw e at taken) in rw e (omega arith)

pub entry_shortens : {b lines : ℕ} {text key rest : List ℕ} {v : Option (List ℕ)} (at : List ℕ)
    → at ≡ b ∷ text → is_ascii_alphabetic b ≡ true → TakesEntry at key v lines rest
    → length rest < length at
entry_shortens at e letter taken = let bound = entry_bound letter (rw e at taken) in rw e (omega arith)
