-- After an `=`, a text has at most one value or place at which the reading stops.
use Rattle.std.proofs.Common.{◌≡◌, ◌≢◌, ℕ, ◌+◌, Bool, true, false, not, ◌==◌, List, [], ◌∷◌}
use Rattle.std.proofs.Common.{◌++◌, Option, Some, None, is_some, Result, Ok, Err, length, refl, sym, ap, ◌∙◌}
use Rattle.std.proofs.Common.{arith, if◌then◌else◌, append-nil, inl, inr, ◌⊎◌}
use Rattle.std.proofs.lemmas.Bool.Decides.{nat_tests}
use Rattle.config_file.proofs.OneRun.{before, before_is}
use Rattle.config_file.proofs.Pick.{pick, pick_first, pick_third, equal, test_false}
use Rattle.config_file.specs.declared.errors.Why.{Why}
use Rattle.config_file.specs.declared.errors.Why.TheVariants.{BadLine, Nul}
use Rattle.config_file.specs.Bytes.{is_plain, is_blank, is_comment_sign, EndsText}
use Rattle.config_file.specs.Header.{why_at}
use Rattle.config_file.specs.Value as value
use Rattle.config_file.specs.Value.{Ending, outside, inside, at_backslash, Spells, TakesValue, ValueStops}
use Rattle.config_file.specs.Value.{IsPart, EndsValue, IsNoEscape, line_feeds, escape}
use Rattle.config_file.specs.Reading.Scans.{goes_on}
use Rattle.config_file.proofs.OneSubsection.{ends_text_byte}
use Rattle.config_file.proofs.Scan.{Step, stop, Scans, ends, goes, before_stop, stops_after, stops_within}

abbrev step_return : Bool → ℕ → List ℕ → Option (Bool × List ℕ)
step_return q e [] = None
step_return q e (f ∷ rest) = if e == 13 then (if f == 10 then Some (q, rest) else None) else None

abbrev step_escape : Bool → List ℕ → Option (Bool × List ℕ)
step_escape q [] = None
step_escape q (e ∷ rest) =
    pick (is_some (escape e)) (e == 10) (Some (q, rest)) (Some (q, rest)) (step_return q e rest)

abbrev step_byte : Bool → ℕ → List ℕ → Option (Bool × List ℕ)
step_byte q b text = if goes_on q b then Some (q, text) else None

abbrev step : Step Bool
step q [] = None
step q (b ∷ text) = pick (b == 34) (b == 92) (Some (not q, text)) (step_escape q text) (step_byte q b text)

abbrev state : Ending → Bool
state outside = false
state inside = true
state at_backslash = false

abbrev tail : Ending → List ℕ
tail outside = []
tail inside = []
tail at_backslash = 92 ∷ []

abbrev Passes : Bool → ℕ → Type 0
Passes q b = (goes_on q b ≡ true) × ((b == 34) ≡ false) × ((b == 92) ≡ false)

plain_passes : (q : Bool) (b : ℕ) → is_plain q b ≡ true → Passes q b
plain_passes true b is = (grind (arith, nat_tests), grind (arith, nat_tests), grind (arith, nat_tests))
plain_passes false b is = (grind (arith, nat_tests), grind (arith, nat_tests), grind (arith, nat_tests))

blank_passes : (b : ℕ) → is_blank b ≡ true → Passes false b
blank_passes b is = (grind (arith, nat_tests), grind (arith, nat_tests), grind (arith, nat_tests))

step_byte_on : (q : Bool) (b : ℕ) (text : List ℕ) → Passes q b → step q (b ∷ text) ≡ Some (q, text)
step_byte_on q b text (on, no_quote, no_backslash) = rw (no_quote, no_backslash, on)

-- the scan of the bytes of a value stops after them, or before their last backslash
scans : {w : ℕ → ℕ} {q : Bool} {so_far raw spelled held : List ℕ} {e : Ending}
    → Spells w q so_far held raw spelled e → Scans step q raw (state e) (tail e)
scans value.ends_outside = ends
scans value.ends_inside = ends
scans (value.ends_at_backslash is) = rw is ends
scans (value.quote is s) = goes [] (scans s) (λ rest. rw is)
scans (value.escaped {quoted = q} {e = l} is letter s) =
    goes (l ∷ []) (scans s)
    (λ rest. let next = Some (q, rest) in
    rw is (pick_first _ (l == 10) next next (step_return q l rest) (ap is_some letter)))
scans (value.continued {e = l} is line s) = goes (l ∷ []) (scans s) (λ rest. rw (is, line))
scans (value.continued_after_return {e = l} {f = m} is return line s) =
    goes (l ∷ m ∷ []) (scans s) (λ rest. rw (is, return, line))
scans (value.blank {b = b} is s) = goes [] (scans s) (λ rest. step_byte_on false b rest (blank_passes b is))
scans (value.plain {quoted = q} {b = b} is s) =
    goes [] (scans s) (λ rest. step_byte_on q b rest (plain_passes q b is))

-- the bytes of a value that ends at a backslash end in that backslash
pub before_backslash : {w : ℕ → ℕ} {q : Bool} {so_far raw spelled held : List ℕ}
    → Spells w q so_far held raw spelled at_backslash → (front : List ℕ) × (raw ≡ front ++ 92 ∷ [])
before_backslash s = before_stop (scans s)

abbrev pub Outcome : Type 0
Outcome = Result (List ℕ × ℕ × List ℕ) (ℕ × Why)

abbrev finish_at_backslash : List ℕ → Bool → List ℕ → Outcome
finish_at_backslash raw true [] = Err (line_feeds raw + 1, BadLine)
finish_at_backslash raw false [] = Ok (raw ++ 92 ∷ [], line_feeds (raw ++ 92 ∷ []) + 1, [])
finish_at_backslash raw q (e ∷ rest) = Err (line_feeds raw, why_at (e ∷ rest))

-- the outcome of a scan that stops before this rest, after these bytes, in quotes or not
abbrev finish : List ℕ → Bool → List ℕ → Outcome
finish raw true [] = Err (line_feeds raw, BadLine)
finish raw false [] = Ok (raw, line_feeds raw, [])
finish raw true (b ∷ rest) =
    if b == 92 then finish_at_backslash raw true rest else Err (line_feeds raw, why_at (b ∷ rest))
finish raw false (b ∷ rest) =
    pick (b == 92) (b == 0) (finish_at_backslash raw false rest) (Err (line_feeds raw, Nul)) (Ok (raw, line_feeds raw, b ∷ rest))

-- the outcome of the scan, by how far it goes
abbrev finish_at : List ℕ → Bool × List ℕ → Outcome
finish_at text place = finish (before text place.1) place.0 place.1

abbrev pub value_of : List ℕ → Outcome
value_of text = finish_at text (stop step (length text) false text)

outcome_at : {text : List ℕ} (q : Bool) (raw at : List ℕ) → text ≡ raw ++ at
    → stop step (length text) false text ≡ (q, at) → finish raw q at ≡ value_of text
outcome_at {text = text} q raw at joined stops =
    ap (λ x. finish x q at) (before_is raw at text joined) ∙ ap (finish_at text) (sym stops)

part_scans : (q : Bool) (raw : List ℕ) → IsPart q raw → Scans step false raw q []
part_scans true raw (spelled, s) = scans s
part_scans false raw (spelled, s) = scans s

-- the scan stops after a part of a value if no step goes on there
outcome_after : {text : List ℕ} (q : Bool) (raw rest : List ℕ) → text ≡ raw ++ rest → IsPart q raw
    → step q rest ≡ None → finish raw q rest ≡ value_of text
outcome_after q raw rest joined part none =
    outcome_at q raw rest joined (stops_within rest joined (part_scans q raw part) none)

ends_value_byte : (b : ℕ) → (b ≡ 10) ⊎ (is_comment_sign b ≡ true)
    → ((b == 34) ≡ false) × ((b == 92) ≡ false) × (goes_on false b ≡ false) × ((b == 0) ≡ false)
ends_value_byte b (inl is) = rw is (refl, refl, refl, refl)
ends_value_byte b (inr is) =
    (grind (arith, nat_tests), grind (arith, nat_tests), grind (arith, nat_tests), grind (arith, nat_tests))

no_step_byte : (q : Bool) (b : ℕ) (rest : List ℕ) → (b == 34) ≡ false → (b == 92) ≡ false
    → goes_on q b ≡ false → step q (b ∷ rest) ≡ None
no_step_byte q b rest not_quote not_backslash off = rw (not_quote, not_backslash, off)

no_step_at_end : (rest : List ℕ) → EndsValue rest → step false rest ≡ None
no_step_at_end [] h = refl
no_step_at_end (b ∷ rest) h =
    let (not_quote, not_backslash, off, not_nul) = ends_value_byte b h in
    no_step_byte false b rest not_quote not_backslash off

finish_at_end : (raw rest : List ℕ) → EndsValue rest → Ok (raw, line_feeds raw, rest) ≡ finish raw false rest
finish_at_end raw [] h = refl
finish_at_end raw (b ∷ rest) h =
    let (not_quote, not_backslash, off, not_nul) = ends_value_byte b h in
    rw (not_backslash, not_nul)

taken_is : {text raw rest : List ℕ} {lines : ℕ} → TakesValue text raw lines rest
    → Ok (raw, lines, rest) ≡ value_of text
taken_is (value.closed {raw = raw} {value = spelled} {rest = rest} joined spells end) =
    finish_at_end raw rest end
    ∙ outcome_after false raw rest joined (spelled, spells) (no_step_at_end rest end)
taken_is (value.open_end {raw = raw} spells) =
    let (front, e) = before_backslash spells in
    let ran = stops_after (scans spells) [] (length raw) (omega arith) refl in
    let same : Ok (raw, line_feeds raw + 1, []) ≡ finish front false (92 ∷ []) =
    ap (λ x. Ok (x, line_feeds x + 1, [])) e in
    same ∙ outcome_at false front (92 ∷ []) e (rw (append-nil raw) at ran)

no_step_in_quotes : (rest : List ℕ) → EndsText rest → step true rest ≡ None
no_step_in_quotes [] h = refl
no_step_in_quotes (b ∷ rest) h =
    let (not_quote, not_backslash, not_plain) = ends_text_byte b h in
    no_step_byte true b rest not_quote not_backslash h

finish_in_quotes : (raw rest : List ℕ) → EndsText rest
    → Err (line_feeds raw, why_at rest) ≡ finish raw true rest
finish_in_quotes raw [] h = refl
finish_in_quotes raw (b ∷ rest) h =
    let (not_quote, not_backslash, not_plain) = ends_text_byte b h in rw not_backslash

no_return : (q : Bool) (e f : ℕ) (rest : List ℕ) → (e ≡ 13 → f ≢ 10) → step_return q e (f ∷ rest) ≡ None
no_return q e f rest h =
    elim (equal e 13) [
      | inl is ↦ rw (is, test_false f 10 (h is))
      | inr other ↦ rw (test_false e 13 other)
    ]

no_step_after_backslash : (q : Bool) (rest : List ℕ) → IsNoEscape rest → step q (92 ∷ rest) ≡ None
no_step_after_backslash q [] h = absurd h
no_step_after_backslash q (e ∷ []) h =
    pick_third _ _ (Some (q, [])) (Some (q, [])) (step_return q e []) (ap is_some h.0) (test_false e 10 h.1)
no_step_after_backslash q (e ∷ f ∷ rest) h =
    pick_third _ _ (Some (q, f ∷ rest)) (Some (q, f ∷ rest)) (step_return q e (f ∷ rest)) (ap is_some h.0) (test_false e 10 h.1) ∙ no_return q e f rest h.2

finish_after_backslash : (q : Bool) (raw rest : List ℕ) → IsNoEscape rest
    → Err (line_feeds raw, why_at rest) ≡ finish raw q (92 ∷ rest)
finish_after_backslash q raw [] h = absurd h
finish_after_backslash true raw (e ∷ rest) h = refl
finish_after_backslash false raw (e ∷ rest) h = refl

stopped_is : {text : List ℕ} {lines : ℕ} {why : Why} → ValueStops text lines why
    → Err (lines, why) ≡ value_of text
stopped_is (value.nul raw rest joined part is) =
    outcome_after false raw (0 ∷ rest) (joined ∙ rw is) part refl
stopped_is (value.unclosed raw rest joined part end) =
    finish_in_quotes raw rest end ∙ outcome_after true raw rest joined part (no_step_in_quotes rest end)
stopped_is (value.unclosed_open_end raw joined part is) =
    outcome_after true raw (92 ∷ []) (joined ∙ rw is) part refl
stopped_is (value.no_escape q raw rest joined part is none) =
    finish_after_backslash q raw rest none
    ∙ outcome_after q raw (92 ∷ rest) (joined ∙ rw is) part (no_step_after_backslash q rest none)

-- the text has this outcome
abbrev pub ValueHas : List ℕ → Outcome → Type 0
ValueHas text (Ok p) = TakesValue text p.0 p.1 p.2
ValueHas text (Err stop) = ValueStops text stop.0 stop.1

pub value_is : (text : List ℕ) (outcome : Outcome) → ValueHas text outcome → outcome ≡ value_of text
value_is text (Ok (raw, lines, rest)) has = taken_is has
value_is text (Err (lines, why)) has = stopped_is has
