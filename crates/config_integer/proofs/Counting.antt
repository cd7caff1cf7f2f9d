-- One turn of the loop over the digits, and its end at a byte that is no digit.
use Rattle.std.proofs.Common.{◌≡◌, refl, sym, ap, ◌∙◌, subst, arith, ℕ, zero, suc, ◌+◌, ◌-◌, ◌*◌, ◌<◌, ◌≤◌}
use Rattle.std.proofs.Common.{add-one}
use Rattle.std.proofs.Common.{List, [], ◌∷◌, ◌++◌, length, get_or, take, drop, length-drop, drop-cons, replicate, Option, Some}
use Rattle.std.proofs.lemmas.Bool.Decides.{nat_tests}
use Rattle.std.proofs.lemmas.List.{take_all, take_rest}
use Rattle.std.specs.Option.{option_map}
use Rattle.std.specs.Char.{digit_value}
use Rattle.config_text.specs.Value.{Reads}
use Rattle.config_text.specs.Laws.Value.{read_by}
use Rattle.config_integer.specs.declared.suffix.Suffix.{Suffix}
use Rattle.config_integer.specs.Suffix.{SuffixText}
use Rattle.config_integer.specs.Reading.Integer.{number_from, number_and_suffix, suffix_of}
use Rattle.config_integer.specs.Laws.Suffix.{suffix_of_is}

-- a digit moves the loop on by one byte
pub one_digit : (base limit n m at b : ℕ) (t : List ℕ) → at < length t → b ≡ get_or t at 0
    → digit_value b < base
    → m ≡ n * base + digit_value b → m ≤ limit
    → number_from base limit n (drop at t) ≡ number_from base limit m (drop (at + 1) t)
one_digit base limit n m at b t within byte digit sum small =
    rw (drop-cons t at 0) (rw (add-one) (grind (arith, nat_tests)))

-- the first byte is a digit, after the first turn and after later ones
pub first_digit : (base at b : ℕ) (t : List ℕ) → (0 < at → digit_value (get_or t 0 0) < base)
    → b ≡ get_or t at 0
    → digit_value b < base → digit_value (get_or t 0 0) < base
first_digit base zero b t before byte digit = subst (λ x. digit_value x < base) byte digit
first_digit base (suc at) b t before byte digit = before (omega arith)

number_start : (base limit : ℕ) (t : List ℕ) → base ≤ 36 → digit_value (get_or t 0 0) < base
    → number_and_suffix base limit t ≡ number_from base limit 0 t
number_start base limit [] h d = absurd (omega arith)
number_start base limit (c ∷ cs) h d = grind (arith, nat_tests)

number_end : (base limit n at b : ℕ) (t : List ℕ) → at < length t → b ≡ get_or t at 0 → base ≤ digit_value b
    → number_from base limit n (drop at t) ≡ option_map (λ s. (n, Some s)) (suffix_of (drop at t))
number_end base limit n at b t within byte other = rw (drop-cons t at 0) (grind (arith, nat_tests))

-- a zero that is followed by another zero does not change the number
two_zeros : (base limit : ℕ) (ds : List ℕ) → 0 < base → base ≤ 16
    → number_and_suffix base limit (48 ∷ ds) ≡ number_and_suffix base limit (48 ∷ 48 ∷ ds)
two_zeros base limit ds low high =
    let d : digit_value 48 < base = low in
    number_start base limit (48 ∷ ds) (omega arith) d
    ∙ sym (one_digit base limit 0 0 0 48 (48 ∷ 48 ∷ ds) (omega arith) refl d (omega arith) (omega arith))
    ∙ sym (number_start base limit (48 ∷ 48 ∷ ds) (omega arith) d)

pub without_zero : (base limit : ℕ) (t : List ℕ) → 2 ≤ length t → get_or t 0 0 ≡ 48 → get_or t 1 0 ≡ 48
    → 0 < base → base ≤ 16
    → number_and_suffix base limit (take (length t - 1) (drop 1 t)) ≡ number_and_suffix base limit t
without_zero base limit t long first second low high =
    ap (number_and_suffix base limit) (take_rest t 1) ∙ dropped t long first second where
      dropped : (t : List ℕ) → 2 ≤ length t → get_or t 0 0 ≡ 48 → get_or t 1 0 ≡ 48
          → number_and_suffix base limit (drop 1 t) ≡ number_and_suffix base limit t
      dropped (x ∷ y ∷ ds) long first second = rw (first, second) (two_zeros base limit ds low high)
      dropped t long first second = absurd (omega arith)

-- a run of zeros before a zero does not change the number
many_zeros : (n base limit : ℕ) (ds : List ℕ) → 0 < base → base ≤ 16
    → number_and_suffix base limit (48 ∷ ds) ≡ number_and_suffix base limit (replicate n 48 ++ 48 ∷ ds)
many_zeros zero base limit ds low high = refl
many_zeros (suc zero) base limit ds low high = two_zeros base limit ds low high
many_zeros (suc (suc n)) base limit ds low high =
    many_zeros (suc n) base limit ds low high ∙ two_zeros base limit (replicate n 48 ++ 48 ∷ ds) low high

pub without_run : (base limit : ℕ) (t ds : List ℕ) → 2 ≤ length t → get_or t 0 0 ≡ 48 → get_or t 1 0 ≡ 48
    → (after : List ℕ) → after ≡ take (length t - 2) (drop 2 t) → after ≡ replicate 16 48 ++ ds → 0 < base → base ≤ 16
    → number_and_suffix base limit (take (length after - 15) (drop 15 after)) ≡ number_and_suffix base limit t
without_run base limit [] ds long first second after e run low high = absurd (omega arith)
without_run base limit (x ∷ []) ds long first second after e run low high = absurd (omega arith)
without_run base limit (x ∷ y ∷ cs) ds long first second after e run low high =
    let same : cs ≡ replicate 16 48 ++ ds = sym (take_rest (x ∷ y ∷ cs) 2) ∙ sym e ∙ run in
    ap (number_and_suffix base limit) (take_rest after 15 ∙ ap (drop 15) run)
    ∙ many_zeros 17 base limit ds low high
    ∙ sym (rw (first, second, same) refl)

-- after a digit, a byte that is no digit ends the loop: the rest is a suffix, or the text is refused
pub ended : (base limit n at b : ℕ) (t : List ℕ) (r o : Option Suffix) → r ≡ o → at < length t → base ≤ 36
    → digit_value (get_or t 0 0) < base → b ≡ get_or t at 0 → base ≤ digit_value b
    → number_from base limit 0 t ≡ number_from base limit n (drop at t)
    → Reads SuffixText (take (length t - at) (drop at t)) r
    → option_map (λ s. (n, Some s)) o ≡ number_and_suffix base limit t
ended base limit n at b t r o same within low first byte other invariant reads =
    ap (option_map (λ s. (n, Some s)))
    (sym same ∙ read_by suffix_of_is _ r reads ∙ ap suffix_of (whole at t within))
    ∙ sym (number_start base limit t low first ∙ invariant ∙ number_end base limit n at b t within byte other)
  where
    whole : (at : ℕ) (t : List ℕ) → at < length t → take (length t - at) (drop at t) ≡ drop at t
    whole at t h = take_all _ _ (omega (arith, length-drop at t))
