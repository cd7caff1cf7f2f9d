-- After a `[`, a text has at most one header or place at which the reading stops.
use Rattle.std.proofs.Common.{◌≡◌, ◌≢◌, ℕ, false, ◌==◌, List, [], ◌∷◌, Some, None}
use Rattle.std.proofs.Common.{Result, Ok, Err, refl, sym, ap, ◌∙◌, inl, inr, if◌then◌else◌, take, drop}
use Rattle.std.specs.List.{prefix_len}
use Rattle.config_file.proofs.Pick.{choose, chosen, not_chosen, line_end_decided, test_false}
use Rattle.config_file.proofs.OneRun.{run_only}
use Rattle.config_file.proofs.Runs.{run_split}
use Rattle.config_file.proofs.OneSubsection.{SubsectionHas, subsection_of, subsection_is}
use Rattle.config_file.specs.declared.errors.Why.{Why}
use Rattle.config_file.specs.declared.errors.Why.TheVariants.{BadLine}
use Rattle.config_file.specs.Bytes.{is_name_byte, is_blank, IsAtLineEnd}
use Rattle.config_file.specs.Runs.{Run, StopsRun}
use Rattle.config_file.specs.Header as header
use Rattle.config_file.specs.Header.{Section, Header, OpensSubsection, HeaderStops, NameStops}
use Rattle.config_file.specs.Header.{ClosesSubsection, SubsectionStops, BeginsWithout, why_at}

-- the outcome after the closing quote
abbrev close : List ℕ → List ℕ → Result (List ℕ × List ℕ) (ℕ × Why)
close raw [] = Err (1, BadLine)
close raw (b ∷ rest) =
    if b == 93 then Ok (raw, rest)
    else choose (line_end_decided (b ∷ rest)) (Err (1, BadLine)) (Err (0, why_at (b ∷ rest)))

abbrev close_subsection : Result (List ℕ × List ℕ) (List ℕ) → Result (List ℕ × List ℕ) (ℕ × Why)
close_subsection (Ok p) = close p.0 p.1
close_subsection (Err rest) = Err (0, why_at rest)

line_end_no_bracket : (b : ℕ) (rest : List ℕ) → IsAtLineEnd (b ∷ rest) → (b == 93) ≡ false
line_end_no_bracket b [] h = rw h
line_end_no_bracket b (c ∷ rest) (inl is) = rw is
line_end_no_bracket b (c ∷ rest) (inr (is, next)) = rw is

close_late : (raw rest : List ℕ) → IsAtLineEnd rest → Err (1, BadLine) ≡ close raw rest
close_late raw [] h = refl
close_late raw (b ∷ rest) h =
    let late = chosen (line_end_decided (b ∷ rest)) (Err (1, BadLine)) (Err (0, why_at (b ∷ rest))) h in
    rw (line_end_no_bracket b rest h) (sym late)

close_wrong : (raw rest : List ℕ) → BeginsWithout 93 rest → (IsAtLineEnd rest → ⊥)
    → Err (0, why_at rest) ≡ close raw rest
close_wrong raw [] other h = absurd (h tt)
close_wrong raw (b ∷ rest) other h =
    let wrong = not_chosen (line_end_decided (b ∷ rest)) (Err (1, BadLine)) (Err (0, why_at (b ∷ rest))) h in
    rw (test_false b 93 other) (sym wrong)

abbrev closing_of : List ℕ → Result (List ℕ × List ℕ) (ℕ × Why)
closing_of text = close_subsection (subsection_of text)

closing_is : (text : List ℕ) (o : Result (List ℕ × List ℕ) (List ℕ)) → SubsectionHas text o
    → close_subsection o ≡ closing_of text
closing_is text o has = ap close_subsection (subsection_is text o has)

closes_is : {text raw rest : List ℕ} → ClosesSubsection text raw rest → Ok (raw, rest) ≡ closing_of text
closes_is (header.closes {b = b} {text = text} {raw = raw} {rest = rest} takes is) =
    let same : Ok (raw, rest) ≡ close raw (b ∷ rest) = rw is in
    same ∙ closing_is text (Ok (raw, b ∷ rest)) takes

stops_is : {text : List ℕ} {lines : ℕ} {why : Why} → SubsectionStops text lines why
    → Err (lines, why) ≡ closing_of text
stops_is (header.within {text = text} {rest = rest} place) = closing_is text (Err rest) place
stops_is (header.closed {text = text} {raw = raw} {rest = rest} takes other h) =
    close_wrong raw rest other h ∙ closing_is text (Ok (raw, rest)) takes
stops_is (header.closed_at_line_end {text = text} {raw = raw} {rest = rest} takes h) =
    close_late raw rest h ∙ closing_is text (Ok (raw, rest)) takes

abbrev pub Outcome : Type 0
Outcome = Result (Section × List ℕ) (ℕ × Why)

-- the outcome after a name that no blank follows
abbrev close_name : List ℕ → List ℕ → Outcome
close_name name [] = Err (1, BadLine)
close_name [] (b ∷ rest) = Err (0, why_at (b ∷ rest))
close_name (n ∷ name) (b ∷ rest) =
    if b == 93 then Ok ((n ∷ name, None), rest) else Err (0, why_at (b ∷ rest))

name_stops : {name rest : List ℕ} {lines : ℕ} {why : Why} → NameStops name rest lines why
    → Err (lines, why) ≡ close_name name rest
name_stops header.at_end = refl
name_stops header.empty = refl
name_stops (header.not_closed {b = b} {name = []} {rest = rest} other) = refl
name_stops (header.not_closed {b = b} {name = n ∷ name} {rest = rest} other) = rw (test_false b 93 other)

abbrev with_name : List ℕ → Result (List ℕ × List ℕ) (ℕ × Why) → Outcome
with_name name (Ok p) = Ok ((name, Some p.0), p.1)
with_name name (Err stop) = Err stop

-- the outcome after this name and these blanks
abbrev ends_of : List ℕ → List ℕ → List ℕ → Outcome
ends_of name [] more = close_name name more
ends_of name (x ∷ blanks) [] = Err (0, BadLine)
ends_of name (x ∷ blanks) (b ∷ inner) =
    if b == 34 then with_name name (closing_of inner) else Err (0, why_at (b ∷ inner))

abbrev after_name : List ℕ → List ℕ → Outcome
after_name name after =
    let n = prefix_len is_blank after in ends_of name (take n after) (drop n after)

abbrev header_of : List ℕ → Outcome
header_of text =
    let n = prefix_len is_name_byte text in after_name (take n text) (drop n text)

ends_at : {text name after blanks more : List ℕ} → Run is_name_byte text name after
    → Run is_blank after blanks more → ends_of name blanks more ≡ header_of text
ends_at {text = text} {name = name} {after = after} {blanks = blanks} {more = more} name_run blank_run =
    let (names, afters) = run_only name_run (run_split is_name_byte text) in
    let (all, mores) = run_only blank_run (run_split is_blank after) in
    let first : ends_of name blanks more ≡ after_name name after = rw (all, mores) in
    let second : after_name name after ≡ header_of text = rw (names, afters) in
    first ∙ second

no_run : (after : List ℕ) → StopsRun is_blank after → Run is_blank after [] after
no_run after stops = record { joined = refl; pass = refl; longest = stops }

opened_ends : (name blanks : List ℕ) (quote : ℕ) (inner : List ℕ) (o : Result (List ℕ × List ℕ) (ℕ × Why))
    → blanks ≢ [] → quote ≡ 34 → o ≡ closing_of inner
    → with_name name o ≡ ends_of name blanks (quote ∷ inner)
opened_ends name [] quote inner o some is same = absurd (some refl)
opened_ends name (x ∷ blanks) quote inner o some is same = rw is (ap (with_name name) same)

unopened_ends : (name blanks more : List ℕ) → blanks ≢ [] → BeginsWithout 34 more
    → Err (0, why_at more) ≡ ends_of name blanks more
unopened_ends name [] more some other = absurd (some refl)
unopened_ends name (x ∷ blanks) [] some other = refl
unopened_ends name (x ∷ blanks) (b ∷ inner) some other = rw (test_false b 34 other)

named_ends : (name : List ℕ) (b : ℕ) (rest : List ℕ) → name ≢ [] → b ≡ 93
    → Ok ((name, None), rest) ≡ close_name name (b ∷ rest)
named_ends [] b rest some is = absurd (some refl)
named_ends (n ∷ name) b rest some is = rw is

opened_is : {text name inner : List ℕ} (opens : OpensSubsection text name inner)
    (o : Result (List ℕ × List ℕ) (ℕ × Why)) → o ≡ closing_of inner → with_name name o ≡ header_of text
opened_is {name = name} {inner = inner} opens o same =
    opened_ends name opens.blanks opens.quote inner o opens.some_blank opens.is_quote same
    ∙ ends_at opens.name_run opens.blank_run

abbrev pub HeaderHas : List ℕ → Outcome → Type 0
HeaderHas text (Ok p) = Header text p.0 p.1
HeaderHas text (Err stop) = HeaderStops text stop.0 stop.1

header_is : (text : List ℕ) (outcome : Outcome) → HeaderHas text outcome → outcome ≡ header_of text
header_is text (Ok (section, rest)) (header.plain {b = b} {name = n} run some is) =
    named_ends n b rest some is ∙ ends_at run (no_run (b ∷ rest) (rw is refl))
header_is text (Ok (section, rest)) (header.quoted {raw = raw} opens closed) =
    opened_is opens (Ok (raw, rest)) (closes_is closed)
header_is text (Err (lines, why)) (header.name {rest = rest} run none stops) =
    name_stops stops ∙ ends_at run (no_run rest none)
header_is text (Err (lines, why)) (header.blanks {name = n} {blanks = x} {rest = r} run more some other) =
    unopened_ends n x r some other ∙ ends_at run more
header_is text (Err (lines, why)) (header.subsection opens stops) =
    opened_is opens (Err (lines, why)) (stops_is stops)

pub header_only : (text : List ℕ) (a b : Outcome) → HeaderHas text a → HeaderHas text b → a ≡ b
header_only text a b first second = header_is text a first ∙ sym (header_is text b second)
