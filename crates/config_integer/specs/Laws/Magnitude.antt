-- `magnitude_of` returns exactly the magnitude of a text, if it is at most `limit`, and the suffix after it.
use Rattle.std.proofs.Common.{◌≡◌, ◌≢◌, refl, sym, ap, ◌∙◌, subst, arith, ℕ, ◌+◌, ◌*◌, ◌<◌, ◌≤◌, ◌⊎◌, inl}
use Rattle.std.proofs.Common.{inr, Bool, true, false, cond, List, [], ◌∷◌, ◌++◌, get_or, drop, Option, Some}
use Rattle.std.proofs.Common.{None, append_assoc}
use Rattle.std.proofs.lemmas.Bool.{cases_Bool, eq-eqb, eqb-true, leb-true, ltb-true}
use Rattle.std.proofs.lemmas.Bool.Decides.{nat_tests}
use Rattle.std.proofs.lemmas.Option.{none-some, some_pair_parts}
use Rattle.std.proofs.lemmas.Str.Parse.{digit_from_value}
use Rattle.std.specs.Char.{digit_value}
use Rattle.std.specs.Int.{IsInRange}
use Rattle.std.specs.Option.{option_map}
use Rattle.std.specs.Prelude.{nat_lt, nat_le, ◌==◌, ◌||◌}
use Rattle.std.specs.Str.Parse.{AllDigits, IsNumeral, digits_value_after}
use Rattle.config_text.specs.Numerals.{place_sum}
use Rattle.config_text.specs.Laws.Numerals.{digits_value_after_ge, place_sum_is}
use Rattle.config_integer.specs.declared.suffix.Suffix.{Suffix}
use Rattle.config_integer.specs.declared.suffix.Suffix.TheVariants.{Kibi, Mebi, Gibi}
use Rattle.config_integer.specs.Suffix.{SuffixText}
use Rattle.config_integer.specs.Integer.{Magnitude, SuffixIfAny}
use Rattle.config_integer.specs.Integer.Magnitude.{nought, decimal, octal, hexadecimal, binary}
use Rattle.config_integer.specs.Reading.Integer.{suffix_of, number_from, number_and_suffix, base_and_digits}
use Rattle.config_integer.specs.Reading.Integer.{magnitude_in, magnitude_of}
use Rattle.config_integer.specs.Laws.Suffix.{suffix_of_is}

-- ---- the suffix

-- the text is one letter that is neither a digit in a base up to 16 nor `x`
pub record IsLetter (back : List ℕ) (c : ℕ) : Type 0 where
  pub alone : back ≡ c ∷ []
  pub low : 16 ≤ digit_value c
  pub high : digit_value c ≤ 22

suffix_letter : (back : List ℕ) (s : Suffix) → SuffixText back s → (c : ℕ) × IsLetter back c
suffix_letter back Kibi (inl e) = (107, record { alone = e; low = omega arith; high = omega arith })
suffix_letter back Kibi (inr e) = (75, record { alone = e; low = omega arith; high = omega arith })
suffix_letter back Mebi (inl e) = (109, record { alone = e; low = omega arith; high = omega arith })
suffix_letter back Mebi (inr e) = (77, record { alone = e; low = omega arith; high = omega arith })
suffix_letter back Gibi (inl e) = (103, record { alone = e; low = omega arith; high = omega arith })
suffix_letter back Gibi (inr e) = (71, record { alone = e; low = omega arith; high = omega arith })

-- what follows a number does not begin with a digit
no_digit : (c : ℕ) (cs : List ℕ) (o : Option Suffix) → SuffixIfAny (c ∷ cs) o → digit_value c < 16 → ⊥
no_digit c cs None u d = cc (u)
no_digit c cs (Some s) u d =
    let k = suffix_letter (c ∷ cs) s u in
    grind (arith, k.1.alone, k.1.low)

-- ---- digits

suffix_found : (base limit n c : ℕ) (o : Option Suffix) → base ≤ digit_value c → suffix_of (c ∷ []) ≡ o
    → number_from base limit n (c ∷ []) ≡ option_map (λ s. (n, Some s)) o
suffix_found base limit n c o other e = rw (sym e) (grind (arith, nat_tests))

number_from_found : (base limit : ℕ) → 1 ≤ base → base ≤ 16
    → (ds : List ℕ) (n : ℕ) (back : List ℕ) (o : Option Suffix)
    → AllDigits base ds → digits_value_after base n ds ≤ limit → SuffixIfAny back o
    → number_from base limit n (ds ++ back) ≡ Some (digits_value_after base n ds, o)
number_from_found base limit l h [] n back None digits small unit = rw unit refl
number_from_found base limit l h [] n back (Some s) digits small unit =
    let k = suffix_letter back s unit in
    let e = k.1.alone in
    let found = suffix_of_is.found (k.0 ∷ []) s (rw e at unit) in
    rw e (suffix_found base limit n k.0 (Some s) (omega (arith, k.1.low)) found)
number_from_found base limit l h (c ∷ cs) n back o digits small unit =
    step (n * base + digit_value c) refl (digits_value_after_ge base l cs (n * base + digit_value c))
    (number_from_found base limit l h cs (n * base + digit_value c) back o digits.1 small unit) where
      step : (m : ℕ) → m ≡ n * base + digit_value c → m ≤ digits_value_after base m cs
          → number_from base limit m (cs ++ back) ≡ Some (digits_value_after base m cs, o)
          → number_from base limit n ((c ∷ cs) ++ back) ≡ Some (digits_value_after base m cs, o)
      step m is ge e = grind (arith, nat_tests, digits.0)

-- the text begins with what writes the number `m`, which is at most `limit`, and then has nothing or a suffix
pub record NumberRead (Writes : List ℕ → Type 0) (limit : ℕ) (t : List ℕ) (m : ℕ)
    (o : Option Suffix) : Type 0 where
  pub front : List ℕ
  pub back : List ℕ
  pub parts : t ≡ front ++ back
  pub writes : Writes front
  pub small : m ≤ limit
  pub unit : SuffixIfAny back o

-- such a text after further bytes
after : {P Q : List ℕ → Type 0} {limit m : ℕ} {t : List ℕ} {o : Option Suffix} (bytes : List ℕ)
    (k : NumberRead P limit t m o) → Q (bytes ++ k.front) → NumberRead Q limit (bytes ++ t) m o
after bytes k writes = record {
  front = bytes ++ k.front;
  back = k.back;
  parts = ap (λ l. bytes ++ l) k.parts ∙ sym (append_assoc bytes k.front k.back);
  writes = writes;
  small = k.small;
  unit = k.unit;
}

-- the text has digits that continue `n` to `m`
abbrev DigitsText : ℕ → ℕ → ℕ → List ℕ → ℕ → Option Suffix → Type 0
DigitsText base limit n t m o =
    NumberRead (λ ds. AllDigits base ds × (m ≡ digits_value_after base n ds)) limit t m o

no_more_digits : (base limit n m : ℕ) (t : List ℕ) (u o : Option Suffix) → n ≤ limit → (n ≡ m) × (u ≡ o)
    → SuffixIfAny t u
    → DigitsText base limit n t m o
no_more_digits base limit n m t u o small same unit = rw (← same.0, ← same.1)
    record { front = []; back = t; parts = refl; writes = (tt, refl); small = small; unit = unit }

number_from_derived : (base limit : ℕ) (t : List ℕ) (n m : ℕ) (o : Option Suffix) → n ≤ limit
    → number_from base limit n t ≡ Some (m, o) → DigitsText base limit n t m o
number_from_derived base limit [] n m o small e =
    no_more_digits base limit n m [] None o small (some_pair_parts n m None o e) refl
number_from_derived base limit (c ∷ cs) n m o small e =
    elim (cases_Bool (nat_lt (digit_value c) base)) [
      | inl p ↦ elim (cases_Bool (nat_le (n * base + digit_value c) limit)) [
        | inl q ↦
            let k = number_from_derived base limit cs (n * base + digit_value c) m o (leb-true _ limit q)
            (rw (p, q) at e) in
            after (c ∷ []) k ((ltb-true _ base p, k.writes.0), k.writes.1)
        | inr q ↦ absurd (none-some _ (rw (p, q) at e))
      ]
      | inr p ↦ at_suffix (suffix_of (c ∷ cs)) refl (rw p at e)
    ] where
      at_suffix : (r : Option Suffix) → suffix_of (c ∷ cs) ≡ r
          → option_map {U = ℕ × Option Suffix} (λ s. (n, Some s)) r ≡ Some (m, o)
          → DigitsText base limit n (c ∷ cs) m o
      at_suffix None u e = absurd (none-some _ e)
      at_suffix (Some s) u e =
          no_more_digits base limit n m (c ∷ cs) (Some s) o small (some_pair_parts n m (Some s) o e)
          (suffix_of_is.derived (c ∷ cs) s u)

-- one or more digits are read as the number that they write
number_found : (base limit : ℕ) → 1 ≤ base → base ≤ 16 → (ds back : List ℕ) (o : Option Suffix)
    → IsNumeral base ds → place_sum ds base ≤ limit → SuffixIfAny back o
    → number_and_suffix base limit (ds ++ back) ≡ Some (place_sum ds base, o)
number_found base limit l h [] back o digits small unit = absurd (omega (arith, digits.0))
number_found base limit l h (c ∷ cs) back o digits small unit =
    let e = place_sum_is base (c ∷ cs) in
    first (nat_lt (digit_value c) base) (grind (arith, nat_tests, digits.1.0))
    ∙ number_from_found base limit l h (c ∷ cs) 0 back o digits.1 (subst (λ x. x ≤ limit) e small) unit
    ∙ ap (λ x. Some (x, o)) (sym e) where
      first : {r : Option (ℕ × Option Suffix)} (b : Bool) → b ≡ true → cond b r None ≡ r
      first b e = rw e refl

-- the text begins with a numeral
abbrev NumeralText : ℕ → ℕ → List ℕ → ℕ → Option Suffix → Type 0
NumeralText base limit t m o = NumberRead (λ ds. IsNumeral base ds × (m ≡ place_sum ds base)) limit t m o

number_derived : (base limit : ℕ) → base ≤ 16 → (t : List ℕ) (m : ℕ) (o : Option Suffix)
    → number_and_suffix base limit t ≡ Some (m, o) → NumeralText base limit t m o
number_derived base limit h [] m o e = absurd (none-some _ e)
number_derived base limit h (c ∷ cs) m o e = first (nat_lt (digit_value c) base) refl e where
  whole : digit_value c < base → DigitsText base limit 0 (c ∷ cs) m o → NumeralText base limit (c ∷ cs) m o
  whole d k = after [] k (from k.front k.parts k.writes.0 k.writes.1) where
    from : (front : List ℕ) → c ∷ cs ≡ front ++ k.back → AllDigits base front
        → m ≡ digits_value_after base 0 front
        → IsNumeral base front × (m ≡ place_sum front base)
    from [] p ds n = absurd (no_digit c cs o (rw p k.unit) (omega arith))
    from (f ∷ fs) p ds n = ((omega arith, ds), n ∙ sym (place_sum_is base (f ∷ fs)))

  first : (b : Bool) → nat_lt (digit_value c) base ≡ b
      → cond b (number_from base limit 0 (c ∷ cs)) None ≡ Some (m, o)
      → NumeralText base limit (c ∷ cs) m o
  first true d e =
      whole (grind (arith, nat_tests)) (number_from_derived base limit (c ∷ cs) 0 m o (omega arith) e)
  first false d e = absurd (none-some _ e)

-- ---- the base

-- not one of `x`, `X`, `b` and `B`, which mark a base after a `0`
abbrev not_marked : ℕ → Type 0
not_marked c = (c ≢ 120) × (c ≢ 88) × (c ≢ 98) × (c ≢ 66)

octal_base : (t : List ℕ) → get_or t 0 0 ≡ 48 → not_marked (get_or t 1 0) → base_and_digits t ≡ (8, t)
octal_base t z h = grind (arith, nat_tests)

decimal_base : (t : List ℕ) → get_or t 0 0 ≢ 48 → base_and_digits t ≡ (10, t)
decimal_base t z = grind (arith, nat_tests)

hexadecimal_base : (t : List ℕ) → get_or t 0 0 ≡ 48 → (get_or t 1 0 ≡ 120) ⊎ (get_or t 1 0 ≡ 88)
    → base_and_digits t ≡ (16, drop 2 t)
hexadecimal_base t z (inl h) = grind (arith, nat_tests)
hexadecimal_base t z (inr h) = grind (arith, nat_tests)

binary_base : (t : List ℕ) → get_or t 0 0 ≡ 48 → (get_or t 1 0 ≡ 98) ⊎ (get_or t 1 0 ≡ 66)
    → base_and_digits t ≡ (2, drop 2 t)
binary_base t z (inl h) = grind (arith, nat_tests)
binary_base t z (inr h) = grind (arith, nat_tests)

-- a byte marks no base if its digit value is neither that of `x` nor that of `b`
not_marked_by : (c : ℕ) → ¬ (digit_value c ≡ 33) → ¬ (digit_value c ≡ 11) → not_marked c
not_marked_by c x b = (at 120 x, at 88 x, at 98 b, at 66 b) where
  at : (d : ℕ) → ¬ (digit_value c ≡ digit_value d) → c ≢ d
  at d other e = other (ap digit_value e)

suffix_not_marked : (c : ℕ) (back : List ℕ) (o : Option Suffix) → SuffixIfAny back o
    → not_marked (get_or (c ∷ back) 1 0)
suffix_not_marked c back None u = rw u (not_marked_by 0 (λ e. omega arith) (λ e. omega arith))
suffix_not_marked c back (Some s) u =
    let k = suffix_letter back s u in
    rw k.1.alone (not_marked_by k.0 (λ e. omega (arith, k.1.high)) (λ e. omega (arith, k.1.low)))

octal_not_marked : (ds back : List ℕ) → IsNumeral 8 ds → not_marked (get_or (48 ∷ (ds ++ back)) 1 0)
octal_not_marked [] back h = absurd (omega (arith, h.0))
octal_not_marked (c ∷ cs) back h = not_marked_by c (λ e. omega (arith, h.1.0)) (λ e. omega (arith, h.1.0))

-- a text that begins with `0` and one of two marks
marked : (t ds : List ℕ) (x y : ℕ) → (t ≡ 48 ∷ x ∷ ds) ⊎ (t ≡ 48 ∷ y ∷ ds)
    → (z : ℕ) × (t ≡ 48 ∷ z ∷ ds) × ((z ≡ x) ⊎ (z ≡ y))
marked t ds x y (inl e) = (x, e, inl refl)
marked t ds x y (inr e) = (y, e, inr refl)

unmarked : (ds : List ℕ) (z x y : ℕ) → (z ≡ x) ⊎ (z ≡ y)
    → (48 ∷ z ∷ ds ≡ 48 ∷ x ∷ ds) ⊎ (48 ∷ z ∷ ds ≡ 48 ∷ y ∷ ds)
unmarked ds z x y (inl e) = inl (ap (λ c. 48 ∷ c ∷ ds) e)
unmarked ds z x y (inr e) = inr (ap (λ c. 48 ∷ c ∷ ds) e)

-- ---- the magnitude

-- if the base and the digits of a text are known, its magnitude is the number that the digits write
numeral_found : (limit : ℕ) (t ds back : List ℕ) (base n : ℕ) (o : Option Suffix) → 1 ≤ base → base ≤ 16
    → base_and_digits t ≡ (base, ds ++ back) → IsNumeral base ds → n ≡ place_sum ds base → n ≤ limit
    → SuffixIfAny back o
    → magnitude_of limit t ≡ Some (n, o)
numeral_found limit t ds back base n o low high is digits same small unit =
    ap (magnitude_in limit) is
    ∙ number_found base limit low high ds back o digits (subst (λ x. x ≤ limit) same small) unit
    ∙ ap (λ x. Some (x, o)) (sym same)

decimal_digit : (d : ℕ) → IsInRange 49 57 d → digit_value d < 10
decimal_digit d r = grind (arith, nat_tests, r.0, r.1)

pub magnitude_found : (limit : ℕ) (front back : List ℕ) (n : ℕ) (o : Option Suffix) → Magnitude front n
    → n ≤ limit
    → SuffixIfAny back o → magnitude_of limit (front ++ back) ≡ Some (n, o)
magnitude_found limit front back n o (nought e z) small unit =
    rw e (numeral_found limit (48 ∷ back) (48 ∷ []) back 8 n o (omega arith) (omega arith)
    (octal_base (48 ∷ back) refl (suffix_not_marked 48 back o unit))
    (omega arith, (omega arith, tt)) z small unit)
magnitude_found limit front back n o (decimal d ds e r a s) small unit =
    rw e (numeral_found limit ((d ∷ ds) ++ back) (d ∷ ds) back 10 n o (omega arith) (omega arith)
    (decimal_base ((d ∷ ds) ++ back) (λ z. omega (arith, r.0)))
    (omega arith, (decimal_digit d r, a)) (rw e at s) small unit)
magnitude_found limit front back n o (octal ds e a s) small unit =
    rw e (numeral_found limit (48 ∷ (ds ++ back)) (48 ∷ ds) back 8 n o (omega arith) (omega arith)
    (octal_base (48 ∷ (ds ++ back)) refl (octal_not_marked ds back a)) (omega arith, (omega arith, a.1))
    (omega (arith, s)) small unit)
magnitude_found limit front back n o (hexadecimal ds m a s) small unit =
    let k = marked front ds 120 88 m in
    rw k.1 (numeral_found limit (48 ∷ k.0 ∷ (ds ++ back)) ds back 16 n o (omega arith) (omega arith)
    (hexadecimal_base (48 ∷ k.0 ∷ (ds ++ back)) refl k.2) a s small unit)
magnitude_found limit front back n o (binary ds m a s) small unit =
    let k = marked front ds 98 66 m in
    rw k.1 (numeral_found limit (48 ∷ k.0 ∷ (ds ++ back)) ds back 2 n o (omega arith) (omega arith)
    (binary_base (48 ∷ k.0 ∷ (ds ++ back)) refl k.2) a s small unit)

-- the text begins with a magnitude
abbrev pub MagnitudeText : ℕ → List ℕ → ℕ → Option Suffix → Type 0
MagnitudeText limit t n o = NumberRead (λ front. Magnitude front n) limit t n o

octal_read : (limit : ℕ) (t : List ℕ) (n : ℕ) (o : Option Suffix) → get_or t 0 0 ≡ 48
    → NumeralText 8 limit t n o
    → MagnitudeText limit t n o
octal_read limit t n o z k =
    after [] k (from k.front k.writes.0 k.writes.1 (rw k.parts at z)) where
      from : (front : List ℕ) → IsNumeral 8 front → n ≡ place_sum front 8 → get_or (front ++ k.back) 0 0 ≡ 48
          → Magnitude front n
      from [] a s z = absurd (omega (arith, a.0))
      from (c ∷ []) a s z = nought (ap (λ x. x ∷ []) z) (s ∙ ap (λ x. place_sum (x ∷ []) 8) z)
      from (c ∷ d ∷ ds) a s z =
          octal (d ∷ ds) (ap (λ x. x ∷ d ∷ ds) z) (omega arith, a.1.1)
          (s ∙ ap (λ x. place_sum (x ∷ d ∷ ds) 8) z ∙ omega arith)

decimal_read : (limit : ℕ) (t : List ℕ) (n : ℕ) (o : Option Suffix) → get_or t 0 0 ≢ 48
    → NumeralText 10 limit t n o
    → MagnitudeText limit t n o
decimal_read limit t n o z k =
    after [] k (from k.front k.writes.0 k.writes.1 (λ e. z (rw k.parts e))) where
      from : (front : List ℕ) → IsNumeral 10 front → n ≡ place_sum front 10
          → get_or (front ++ k.back) 0 0 ≢ 48
          → Magnitude front n
      from [] a s z = absurd (omega (arith, a.0))
      from (c ∷ cs) a s z = decimal c cs refl (range c a.1.0 z) a.1.1 s where
        range : (c : ℕ) → digit_value c < 10 → c ≢ 48 → IsInRange 49 57 c
        range c d z = grind (arith, nat_tests, digit_from_value c d)

two_bytes : (t : List ℕ) (c : ℕ) → get_or t 1 0 ≡ c → get_or t 0 0 ≡ 48 → 0 < c → t ≡ 48 ∷ c ∷ drop 2 t
two_bytes (b ∷ d ∷ ds) c e z p = rw (z, e) refl
two_bytes t c e z p = absurd (omega arith)

one_of : (x y z : ℕ) → (x == y || x == z) ≡ true → (x ≡ y) ⊎ (x ≡ z)
one_of x y z e = grind (arith, nat_tests)

positive : (x y z : ℕ) → (x ≡ y) ⊎ (x ≡ z) → 0 < y → 0 < z → 0 < x
positive x y z (inl e) p q = omega arith
positive x y z (inr e) p q = omega arith

pub magnitude_derived : (limit : ℕ) (t : List ℕ) (n : ℕ) (o : Option Suffix)
    → magnitude_of limit t ≡ Some (n, o)
    → MagnitudeText limit t n o
magnitude_derived limit t n o e =
    turn (get_or t 1 0) refl (get_or t 0 0 == 48) _ _ refl refl refl e where
      behind : (c x y : ℕ) → get_or t 1 0 ≡ c → get_or t 0 0 ≡ 48 → (c ≡ x) ⊎ (c ≡ y) → 0 < x → 0 < y
          → MagnitudeText limit (48 ∷ c ∷ drop 2 t) n o → MagnitudeText limit t n o
      behind c x y is z m p q k = rw (two_bytes t c is z (positive c x y m p q)) k

      turn : (c : ℕ) → get_or t 1 0 ≡ c → (z x b : Bool)
          → (get_or t 0 0 == 48) ≡ z → (c == 120 || c == 88) ≡ x → (c == 98 || c == 66) ≡ b
          → magnitude_in limit (cond z (cond x (16, drop 2 t) (cond b (2, drop 2 t) (8, t))) (10, t))
          ≡ Some (n, o)
          → MagnitudeText limit t n o
      turn c is true true b p q r e =
          let m = one_of c 120 88 q in
          let k = number_derived 16 limit (omega arith) (drop 2 t) n o e in
          behind c 120 88 is (eqb-true _ 48 p) m (omega arith) (omega arith)
          (after (48 ∷ c ∷ []) k (hexadecimal k.front (unmarked k.front c 120 88 m) k.writes.0 k.writes.1))
      turn c is true false true p q r e =
          let m = one_of c 98 66 r in
          let k = number_derived 2 limit (omega arith) (drop 2 t) n o e in
          behind c 98 66 is (eqb-true _ 48 p) m (omega arith) (omega arith)
          (after (48 ∷ c ∷ []) k (binary k.front (unmarked k.front c 98 66 m) k.writes.0 k.writes.1))
      turn c is true false false p q r e =
          octal_read limit t n o (eqb-true _ 48 p) (number_derived 8 limit (omega arith) t n o e)
      turn c is false x b p q r e =
          decimal_read limit t n o (λ z. cc (p, eq-eqb _ 48 z))
          (number_derived 10 limit (omega arith) t n o e)

-- a magnitude begins with a digit
pub magnitude_first : (t : List ℕ) (n : ℕ) (back : List ℕ) → Magnitude t n
    → IsInRange 48 57 (get_or (t ++ back) 0 0)
magnitude_first t n back (nought e z) = rw e (omega arith, omega arith)
magnitude_first t n back (decimal d ds e r a s) = rw e (omega (arith, r.0), omega (arith, r.1))
magnitude_first t n back (octal ds e a s) = rw e (omega arith, omega arith)
magnitude_first t n back (hexadecimal ds m a s) = rw (marked t ds 120 88 m).1 (omega arith, omega arith)
magnitude_first t n back (binary ds m a s) = rw (marked t ds 98 66 m).1 (omega arith, omega arith)
