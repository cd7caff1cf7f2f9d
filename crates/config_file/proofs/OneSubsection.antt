-- After a quote, a text has at most one subsection or place at which the reading stops.
use Rattle.std.proofs.Common.{◌≡◌, ℕ, true, false, ◌==◌, List, [], ◌∷◌, ◌++◌, Option, Some}
use Rattle.std.proofs.Common.{None, Result, Ok, Err, length, refl, sym, ap, ◌∙◌, arith, if◌then◌else◌}
use Rattle.std.proofs.Common.{option_map}
use Rattle.std.proofs.lemmas.Bool.Decides.{nat_tests}
use Rattle.config_file.proofs.OneRun.{before, before_is}
use Rattle.config_file.proofs.Pick.{pick}
use Rattle.config_file.proofs.Scan.{Step, stop, Scans, ends, goes, stops_within}
use Rattle.config_file.specs.Bytes.{is_text_byte, is_plain_in_quotes, EndsText}
use Rattle.config_file.specs.Subsection as sub
use Rattle.config_file.specs.Subsection.{SpellsSubsection, IsSubsection, TakesSubsection, StopsInSubsection}

abbrev step_escaped : List ℕ → Option (List ℕ)
step_escaped [] = None
step_escaped (e ∷ rest) = if is_text_byte e then Some rest else None

abbrev step : Step (Unit {0})
step s [] = None
step s (b ∷ text) =
    pick (b == 92) (is_plain_in_quotes b) (option_map (λ rest. (s, rest)) (step_escaped text)) (Some (s, text)) None

plain_is_no_backslash : (b : ℕ) → is_plain_in_quotes b ≡ true → (b == 92) ≡ false
plain_is_no_backslash b is = grind (arith, nat_tests)

scans : {raw spelled : List ℕ} → SpellsSubsection raw spelled → Scans step tt raw tt []
scans sub.ends = ends
scans (sub.escaped {e = e} is text s) = goes (e ∷ []) (scans s) (λ rest. rw (is, text))
scans (sub.plain {b = b} is s) = goes [] (scans s) (λ rest. rw (is, plain_is_no_backslash b is))

-- the outcome of a scan that stops before this rest, after these bytes
abbrev finish : List ℕ → List ℕ → Result (List ℕ × List ℕ) (List ℕ)
finish raw [] = Err []
finish raw (b ∷ rest) = pick (b == 34) (b == 92) (Ok (raw, rest)) (Err rest) (Err (b ∷ rest))

-- the outcome of the scan, by how far it goes
abbrev finish_at : List ℕ → List ℕ → Result (List ℕ × List ℕ) (List ℕ)
finish_at text at = finish (before text at) at

abbrev pub subsection_of : List ℕ → Result (List ℕ × List ℕ) (List ℕ)
subsection_of text = finish_at text (stop step (length text) tt text).1

-- the scan stops after a subsection if no step goes on there
outcome_after : {text : List ℕ} (raw rest : List ℕ) → text ≡ raw ++ rest → IsSubsection raw
    → step tt rest ≡ None → finish raw rest ≡ subsection_of text
outcome_after {text = text} raw rest joined (spelled, s) none =
    ap (λ x. finish x rest) (before_is raw rest text joined)
    ∙ ap (λ p. finish_at text p.1) (sym (stops_within rest joined (scans s) none))

pub ends_text_byte : (b : ℕ) → is_text_byte b ≡ false
    → ((b == 34) ≡ false) × ((b == 92) ≡ false) × (is_plain_in_quotes b ≡ false)
ends_text_byte b h = (grind (arith, nat_tests), grind (arith, nat_tests), grind (arith, nat_tests))

no_step : (rest : List ℕ) → EndsText rest → step tt rest ≡ None
no_step [] h = refl
no_step (b ∷ rest) h =
    let (no_quote, no_backslash, not_plain) = ends_text_byte b h in rw (not_plain, no_backslash)

no_step_escaped : (rest : List ℕ) → EndsText rest → step tt (92 ∷ rest) ≡ None
no_step_escaped [] h = refl
no_step_escaped (b ∷ rest) h = rw h

finish_ends : (raw rest : List ℕ) → EndsText rest → Err rest ≡ finish raw rest
finish_ends raw [] h = refl
finish_ends raw (b ∷ rest) h =
    let (no_quote, no_backslash, not_plain) = ends_text_byte b h in rw (no_quote, no_backslash)

-- the text has this outcome
abbrev pub SubsectionHas : List ℕ → Result (List ℕ × List ℕ) (List ℕ) → Type 0
SubsectionHas text (Ok p) = TakesSubsection text p.0 p.1
SubsectionHas text (Err rest) = StopsInSubsection text rest

pub subsection_is : (text : List ℕ) (outcome : Result (List ℕ × List ℕ) (List ℕ)) → SubsectionHas text outcome
    → outcome ≡ subsection_of text
subsection_is text (Ok (raw, rest)) h = outcome_after raw (34 ∷ rest) h.joined h.is_subsection refl
subsection_is text (Err rest) (sub.stops {raw = raw} is joined h) =
    finish_ends raw rest h ∙ outcome_after raw rest joined is (no_step rest h)
subsection_is text (Err rest) (sub.stops_escaped {raw = raw} is joined e h) =
    outcome_after raw (92 ∷ rest) (joined ∙ rw e) is (no_step_escaped rest h)
