-- After an `=`, each text has a value or a place at which the reading stops. The same holds after a quote.
use Rattle.std.proofs.Common.{◌≡◌, ◌≢◌, ℕ, zero, suc, ◌+◌, ◌≤◌, Bool, true, false, not, ◌==◌, List, [], ◌∷◌}
use Rattle.std.proofs.Common.{None, Result, Ok, Err, length, refl, ap, subst, arith, if◌then◌else◌, inl, inr}
use Rattle.std.proofs.lemmas.Bool.{cases_Bool, eqb-false}
use Rattle.config_file.proofs.Pick.{option_cases, equal, both}
use Rattle.config_file.proofs.Values as values
use Rattle.config_file.proofs.Subsections as subsections
use Rattle.config_file.proofs.OneValue as one_value
use Rattle.config_file.proofs.OneValue.{ValueHas, value_of, value_is}
use Rattle.config_file.proofs.OneSubsection.{SubsectionHas, subsection_of, subsection_is}
use Rattle.config_file.specs.declared.errors.Why.TheVariants.{BadLine, Nul}
use Rattle.config_file.specs.Bytes.{is_text_byte}
use Rattle.config_file.specs.Header.{why_at}
use Rattle.config_file.specs.Value.{escape, line_feeds, IsNoEscape}
use Rattle.config_file.specs.Reading.Scans.{PassedValue, PassedSubsection, Escapes, letter, line}
use Rattle.config_file.specs.Reading.Scans.{line_after_return, goes_on, EndsScan}

pub test_not : (b c : ℕ) → (b == c) ≡ false → b ≢ c
test_not b c off = eqb-false b c off

abbrev HasValue : List ℕ → Type 0
HasValue text = (o : one_value.Outcome) × ValueHas text o

value_ends : {text : List ℕ} (q : Bool) (at : List ℕ) → PassedValue text q at → EndsScan q at → HasValue text
value_ends true at passed ends =
    (Err (line_feeds passed.raw, why_at at), values.ends_in_quotes true passed.raw passed ends refl passed.joined)
value_ends false [] passed ends =
    (Ok (passed.raw, line_feeds passed.raw, []), values.ends_closed false [] passed.raw passed ends refl refl passed.joined)
value_ends false (b ∷ rest) passed ends =
    elim (cases_Bool (b == 0)) [
      | inl is ↦
          let nul : why_at (b ∷ rest) ≡ Nul = ap (λ x. if x then Nul else BadLine) is in
          (Err (line_feeds passed.raw, Nul), values.ends_at_nul false (b ∷ rest) passed.raw passed refl nul passed.joined)
      | inr other ↦
          let bad : why_at (b ∷ rest) ≡ BadLine = ap (λ x. if x then Nul else BadLine) other in
          (Ok (passed.raw, line_feeds passed.raw, b ∷ rest), values.ends_closed false (b ∷ rest) passed.raw passed ends refl bad passed.joined)
    ]

-- what follows a backslash: an escape or a line end, the end of the text, or bytes at which the reading stops
data AfterBackslash (rest : List ℕ) : Type 0 where
  goes : (after : List ℕ) → Escapes rest after → length after ≤ length rest → AfterBackslash rest
  ends : rest ≡ [] → AfterBackslash rest
  stops : IsNoEscape rest → AfterBackslash rest

after_return : (e : ℕ) (rest : List ℕ) → escape e ≡ None → e ≢ 10 → AfterBackslash (e ∷ rest)
after_return e [] none other = stops (none, other)
after_return e (f ∷ rest) none other =
    elim (both (equal e 13) (equal f 10)) [
      | inl is ↦ goes rest (line_after_return refl is.0 is.1) (omega arith)
      | inr off ↦ stops (none, other, λ return next. off (return, next))
    ]

after_backslash : (rest : List ℕ) → AfterBackslash rest
after_backslash [] = ends refl
after_backslash (e ∷ rest) =
    elim (option_cases (escape e)) [
      | inl found ↦ goes rest (letter refl found.1) (omega arith)
      | inr none ↦ elim (equal e 10) [
        | inl is ↦ goes rest (line refl is) (omega arith)
        | inr other ↦ after_return e rest none other
      ]
    ]

value_at_end : {text rest : List ℕ} (q : Bool) (b : ℕ) → PassedValue text q (b ∷ rest) → b ≡ 92 → rest ≡ []
    → HasValue text
value_at_end {rest = rest} true b passed is none =
    (Err (line_feeds passed.raw + 1, BadLine), values.stops_at_open_end true (b ∷ rest) passed.raw passed refl (rw is refl) none passed.joined)
value_at_end {text = text} {rest = rest} false b passed is none =
    (Ok (text, line_feeds text + 1, rest), values.ends_open_here false (b ∷ rest) passed refl (rw is refl) none)

-- each scan that has at most n bytes left finds a value, or a place at which the reading stops
abbrev Finds : ℕ → List ℕ → Type 0
Finds n text = (q : Bool) (at : List ℕ) → length at ≤ n → PassedValue text q at → HasValue text

value_backslash : (n : ℕ) {text : List ℕ} → Finds n text → (q : Bool) (b : ℕ) (rest : List ℕ)
    → length rest ≤ n → PassedValue text q (b ∷ rest) → b ≡ 92
    → AfterBackslash rest → HasValue text
value_backslash n more q b rest room passed is (goes after escapes shorter) =
    more q after (omega arith) (values.passed_escape (b ∷ rest) passed refl is escapes)
value_backslash n more q b rest room passed is (ends none) = value_at_end q b passed is none
value_backslash n more q b rest room passed is (stops none) =
    (Err (line_feeds passed.raw, why_at rest), values.stops_after_backslash q (b ∷ rest) passed.raw passed (rw is refl) none passed.joined)

value_turn : (n : ℕ) {text : List ℕ} → Finds n text → (q : Bool) (b : ℕ) (rest : List ℕ) → length rest ≤ n
    → PassedValue text q (b ∷ rest) → HasValue text
value_turn n more q b rest room passed =
    elim (equal b 34) [
      | inl is ↦ more (not q) rest room (values.passed_quote (b ∷ rest) passed refl is)
      | inr no_quote ↦ elim (equal b 92) [
        | inl is ↦ value_backslash n more q b rest room passed is (after_backslash rest)
        | inr no_backslash ↦ elim (cases_Bool (goes_on q b)) [
          | inl on ↦ more q rest room (values.passed_byte q (b ∷ rest) passed refl on no_quote no_backslash)
          | inr off ↦ value_ends q (b ∷ rest) passed off
        ]
      ]
    ]

value_from : (n : ℕ) (text : List ℕ) → Finds n text
value_from n text q [] room passed = value_ends q [] passed tt
value_from zero text q (b ∷ rest) room passed = absurd (omega arith)
value_from (suc n) text q (b ∷ rest) room passed =
    value_turn n (value_from n text) q b rest (omega arith) passed

pub value_holds : (text : List ℕ) → ValueHas text (value_of text)
value_holds text =
    let (o, has) = value_from (length text) text false text (omega arith) (values.passed_none text) in
    subst (λ x. ValueHas text x) (value_is text o has) has

abbrev HasSubsection : List ℕ → Type 0
HasSubsection text = (o : Result (List ℕ × List ℕ) (List ℕ)) × SubsectionHas text o

abbrev FindsSubsection : ℕ → List ℕ → Type 0
FindsSubsection n text = (at : List ℕ) → length at ≤ n → PassedSubsection text at → HasSubsection text

subsection_escaped : (n : ℕ) {text : List ℕ} → FindsSubsection n text → (b : ℕ) (rest : List ℕ)
    → length rest ≤ n → PassedSubsection text (b ∷ rest) → b ≡ 92 → HasSubsection text
subsection_escaped n more b [] room passed is =
    (Err [], subsections.stops_after_backslash (b ∷ []) passed refl is tt)
subsection_escaped n more b (e ∷ after) room passed is =
    elim (cases_Bool (is_text_byte e)) [
      | inl text ↦
          more after (omega arith) (subsections.passed_escaped (b ∷ e ∷ after) passed refl refl is text)
      | inr off ↦ (Err (e ∷ after), subsections.stops_after_backslash (b ∷ e ∷ after) passed refl is off)
    ]

subsection_turn : (n : ℕ) {text : List ℕ} → FindsSubsection n text → (b : ℕ) (rest : List ℕ) → length rest ≤ n
    → PassedSubsection text (b ∷ rest) → HasSubsection text
subsection_turn n more b rest room passed =
    elim (equal b 34) [
      | inl is ↦ (Ok (passed.raw, rest), subsections.takes (b ∷ rest) passed.raw passed refl is passed.joined)
      | inr no_quote ↦ elim (cases_Bool (is_text_byte b)) [
        | inl text ↦ elim (equal b 92) [
          | inl is ↦ subsection_escaped n more b rest room passed is
          | inr no_backslash ↦
              let plain = subsections.plain_byte b text no_quote no_backslash in
              more rest room (subsections.passed_plain (b ∷ rest) passed refl plain)
        ]
        | inr off ↦ (Err (b ∷ rest), subsections.stops_here (b ∷ rest) passed off)
      ]
    ]

subsection_from : (n : ℕ) (text : List ℕ) → FindsSubsection n text
subsection_from n text [] room passed = (Err [], subsections.stops_here [] passed tt)
subsection_from zero text (b ∷ rest) room passed = absurd (omega arith)
subsection_from (suc n) text (b ∷ rest) room passed =
    subsection_turn n (subsection_from n text) b rest (omega arith) passed

pub subsection_holds : (text : List ℕ) → SubsectionHas text (subsection_of text)
subsection_holds text =
    let (o, has) = subsection_from (length text) text text (omega arith) (subsections.passed_none text) in
    subst (λ x. SubsectionHas text x) (subsection_is text o has) has
