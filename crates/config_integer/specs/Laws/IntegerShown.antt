-- An integer is shown as a canonical text, and each canonical text is what its value is shown as.
use Rattle.std.proofs.Common.{◌≡◌, true, false, ℕ, ℤ, pos, negsuc, neg_ℤ, zero, suc, ◌+◌, ◌*◌, ◌^◌, ◌<◌, ◌≤◌}
use Rattle.std.proofs.Common.{◌⊎◌, inl, inr, List, [], ◌∷◌, ◌++◌, length, get_or, Option, Some, None, refl}
use Rattle.std.proofs.Common.{sym, ap, ◌∙◌, subst, arith, length-append}
use Rattle.std.proofs.lemmas.Int.{ints}
use Rattle.std.proofs.Math.Nat.{one-le-pow}
use Rattle.std.proofs.lemmas.Fmt.{decimal_is_IsNumeral, first_decimal, decimal_digit, length-decimal-le}
use Rattle.std.proofs.lemmas.Fmt.{decimal-digits_value}
use Rattle.std.proofs.lemmas.Str.Parse.{digit_from_value, numerals_by_value, tells_digits}
use Rattle.std.specs.Char.{digit_value}
use Rattle.std.specs.Fmt.{decimal, signed_decimal}
use Rattle.std.specs.Int.{IsInRange}
use Rattle.std.specs.Str.Parse.{AllDigits, IsNumeral}
use Rattle.config_integer.specs.declared.integer.Integer.{Integer}
use Rattle.config_integer.specs.declared.suffix.Suffix.{Suffix}
use Rattle.config_integer.specs.declared.suffix.Suffix.TheVariants.{Kibi, Mebi, Gibi}
use Rattle.config_text.specs.Value.{IsAccepted, HasText, IsTextOf}
use Rattle.config_text.specs.Laws.Value.{IsShown, one_text_by, canonical_reads_by}
use Rattle.config_text.specs.Numerals.{place_sum, IsInI64}
use Rattle.config_text.specs.Laws.Numerals.{place_sum_is}
use Rattle.config_integer.specs.Suffix.{CanonicalSuffix, suffix_shown}
use Rattle.std.specs.Option.{option_map_or}
use Rattle.config_integer.specs.Integer.{Magnitude, NumberText, IntegerText, SuffixIfAny, PlainDigits}
use Rattle.config_integer.specs.Integer.{CanonicalNumber, CanonicalInteger, integer_shown}
use Rattle.config_integer.specs.Integer.Magnitude.{nought, decimal as plain_digits}
use Rattle.config_integer.specs.Integer.SignedText.{plain, minus}
use Rattle.config_integer.specs.Integer.CanonicalNumber.{nought as zero_alone, positive, negative}
use Rattle.config_integer.specs.Laws.Integer.{in_range_of, integer_one_value}

-- digits that begin with 1 to 9 write a number that is not zero
one_or_more : (first : ℕ) (others : List ℕ) → IsInRange 49 57 first → 0 < place_sum (first ∷ others) 10
one_or_more first others r =
    step (digit_value first) (10 ^ length others) (place_sum others 10) digit power where
      digit : 1 ≤ digit_value first
      digit = grind (arith, r.0, r.1)

      power : 1 ≤ 10 ^ length others
      power = one-le-pow _ _ (omega arith)

      step : (d p s : ℕ) → 1 ≤ d → 1 ≤ p → 0 < d * p + s
      step d p s h l = grind arith

digits_shown : (most : ℕ) (t : List ℕ) → most < 2 ^ 64 → PlainDigits most t → decimal (place_sum t 10) ≡ t
digits_shown most t bound p =
    ap decimal (place_sum_is 10 t)
    ∙ decimal-digits_value (numerals_by_value (AllDigits 10) tells_digits) t (all t p.spelled)
    (some t p.spelled)
    (λ e. absurd (omega (arith, leads t p.spelled, e))) (omega (arith, place_sum_is 10 t, p.small)) where
      all : (t : List ℕ) → t ≡ p.first ∷ p.others → AllDigits 10 t
      all t e = rw e (grind (arith, p.from_one.0, p.from_one.1), p.digits)

      some : (t : List ℕ) → t ≡ p.first ∷ p.others → 0 < length t
      some t e = rw e (omega arith)

      leads : (t : List ℕ) → t ≡ p.first ∷ p.others → 49 ≤ get_or t 0 0
      leads t e = rw e p.from_one.0

signed_negative : (n : ℕ) → 0 < n → signed_decimal (neg_ℤ (pos n)) ≡ 45 ∷ decimal n
signed_negative zero h = absurd (omega arith)
signed_negative (suc n) h = refl

digits_magnitude : (most : ℕ) (t : List ℕ) → PlainDigits most t → Magnitude t (place_sum t 10)
digits_magnitude most t p = plain_digits p.first p.others p.spelled p.from_one p.digits refl

-- the text writes a number, and is what this number is shown as
pub record ShownNumber (t : List ℕ) : Type 0 where
  pub number : ℤ
  pub text : NumberText t number
  pub shown : t ≡ signed_decimal number

signed_shown : (most : ℕ) (m : List ℕ) → most < 2 ^ 64 → PlainDigits most m
    → 45 ∷ m ≡ signed_decimal (neg_ℤ (pos (place_sum m 10)))
signed_shown most m bound p =
    ap (λ l. 45 ∷ l) (sym (digits_shown most m bound p)) ∙ sym (signed_negative (place_sum m 10) some) where
      some : 0 < place_sum m 10
      some = subst (λ l. 0 < place_sum l 10) (sym p.spelled) (one_or_more p.first p.others p.from_one)

pub number_shown : (t : List ℕ) → CanonicalNumber t → ShownNumber t
number_shown t (zero_alone e) = record {
  number = pos 0;
  text = record { signed = plain 0 (nought e refl) refl; in_range = in_range_of false 0 (omega arith) };
  shown = e ∙ sym (decimal_digit 0 (omega arith));
}
number_shown t (positive p) = record {
  number = pos (place_sum t 10);
  text = record {
    signed = plain (place_sum t 10) (digits_magnitude _ t p) refl;
    in_range = in_range_of false (place_sum t 10) p.small;
  };
  shown = sym (digits_shown _ t (omega arith) p);
}
number_shown t (negative m e p) = record {
  number = neg_ℤ (pos (place_sum m 10));
  text = record {
    signed = minus m (place_sum m 10) e (digits_magnitude _ m p) refl;
    in_range = in_range_of true (place_sum m 10) p.small;
  };
  shown = e ∙ signed_shown _ m (omega arith) p;
}

unit_shown : (t : List ℕ) → (t ≡ []) ⊎ CanonicalSuffix t
    → (o : Option Suffix) × SuffixIfAny t o × (t ≡ option_map_or suffix_shown o [])
unit_shown t (inl e) = (None, e, e)
unit_shown t (inr (inl e)) = (Some Kibi, inl e, e)
unit_shown t (inr (inr (inl e))) = (Some Mebi, inl e, e)
unit_shown t (inr (inr (inr e))) = (Some Gibi, inl e, e)

canonical_shown : (t : List ℕ) → CanonicalInteger t → IsShown IntegerText integer_shown t
canonical_shown t h =
    let n = number_shown h.front h.number in
    let u = unit_shown h.back h.unit in
    record {
      value = record { value = n.number; suffix = u.0 };
      reads_to = record { front = h.front; back = h.back; parts = h.parts; number = n.text; unit = u.1 };
      same = h.parts ∙ ap (λ l. l ++ h.back) n.shown ∙ ap (λ l. signed_decimal n.number ++ l) u.2;
    }

pub integer_canonical_reads : (t : List ℕ) → CanonicalInteger t → IsAccepted IntegerText t
integer_canonical_reads = canonical_reads_by canonical_shown

pub integer_one_text : (s t : List ℕ) (v : Integer) → CanonicalInteger s → CanonicalInteger t
    → IntegerText s v → IntegerText t v → s ≡ t
integer_one_text = one_text_by integer_one_value canonical_shown

-- the text is a canonical text of the number, of at most 20 bytes
pub record IsShownNumber (z : ℤ) (t : List ℕ) : Type 0 where
  pub canonical_number : CanonicalNumber t
  pub text : NumberText t z
  pub short : length t ≤ 20

decimal_plain : (most n : ℕ) → 0 < n → n ≤ most → most < 2 ^ 64 → PlainDigits most (decimal n)
decimal_plain most n h l b =
    let k = decimal_is_IsNumeral n (omega arith) in
    from (decimal n) k.0 (place_sum_is 10 (decimal n) ∙ k.1) (first_decimal n h (omega arith)) where
      from : (t : List ℕ) → IsNumeral 10 t → place_sum t 10 ≡ n → 48 < get_or t 0 0 → PlainDigits most t
      from [] d e f = absurd (omega (arith, d.0))
      from (c ∷ cs) d e f = record {
        first = c;
        others = cs;
        spelled = refl;
        from_one = (f, (digit_from_value c d.1.0).1);
        digits = d.1.1;
        small = omega (arith, e);
      }

decimal_sum : (n : ℕ) → n < 2 ^ 64 → place_sum (decimal n) 10 ≡ n
decimal_sum n h = place_sum_is 10 (decimal n) ∙ (decimal_is_IsNumeral n h).1

pub shown_number : (z : ℤ) → IsInI64 z → IsShownNumber z (signed_decimal z)
shown_number (pos zero) r = subst (IsShownNumber (pos 0)) (sym (decimal_digit 0 (omega arith))) record {
  canonical_number = zero_alone refl;
  text = record { signed = plain 0 (nought refl refl) refl; in_range = r };
  short = omega arith;
}
shown_number (pos (suc n)) r =
    let small : suc n ≤ 9223372036854775807 = omega (arith, ints, r.high) in
    let p = decimal_plain 9223372036854775807 (suc n) (omega arith) small (omega arith) in
    let sum = sym (decimal_sum (suc n) (omega arith)) in
    record {
      canonical_number = positive p;
      text = record { signed = plain _ (digits_magnitude _ _ p) (ap pos sum); in_range = r };
      short = omega (arith, length-decimal-le 19 (suc n) (omega arith) (omega arith) (omega arith));
    }
shown_number (negsuc n) r =
    let small : suc n ≤ 9223372036854775808 = omega (arith, ints, r.low) in
    let p = decimal_plain 9223372036854775808 (suc n) (omega arith) small (omega arith) in
    let sum = sym (decimal_sum (suc n) (omega arith)) in
    record {
      canonical_number = negative (decimal (suc n)) refl p;
      text = record {
        signed = minus (decimal (suc n)) _ refl (digits_magnitude _ _ p) (ap (λ k. neg_ℤ (pos k)) sum);
        in_range = r;
      };
      short = omega (arith, length-decimal-le 19 (suc n) (omega arith) (omega arith) (omega arith));
    }

record IsShownUnit (o : Option Suffix) (t : List ℕ) : Type 0 where
  canonical_unit : (t ≡ []) ⊎ CanonicalSuffix t
  unit : SuffixIfAny t o
  short : length t ≤ 1

shown_unit : (o : Option Suffix) → IsShownUnit o (option_map_or suffix_shown o [])
shown_unit None = record { canonical_unit = inl refl; unit = refl; short = omega arith }
shown_unit (Some Kibi) = record { canonical_unit = inr (inl refl); unit = inl refl; short = omega arith }
shown_unit (Some Mebi) = record {
  canonical_unit = inr (inr (inl refl));
  unit = inl refl;
  short = omega arith;
}
shown_unit (Some Gibi) = record {
  canonical_unit = inr (inr (inr refl));
  unit = inl refl;
  short = omega arith;
}

joined : (v : Integer) (front back : List ℕ) → IsShownNumber v.value front → IsShownUnit v.suffix back
    → IsTextOf IntegerText CanonicalInteger v (front ++ back)
joined v front back n u = record {
  canonical_text = record {
    front = front;
    back = back;
    parts = refl;
    number = n.canonical_number;
    unit = u.canonical_unit;
  };
  reads_to = record { front = front; back = back; parts = refl; number = n.text; unit = u.unit };
  short = omega (arith, length-append front back, n.short, u.short);
}

pub integer_shown_in_range : (v : Integer) → IsInI64 v.value
    → IsTextOf IntegerText CanonicalInteger v (integer_shown v)
integer_shown_in_range v r = joined v _ _ (shown_number v.value r) (shown_unit v.suffix)

pub integer_shown_is_text : (v : Integer) → HasText IntegerText v
    → IsTextOf IntegerText CanonicalInteger v (integer_shown v)
integer_shown_is_text v h = integer_shown_in_range v h.1.number.in_range

pub integer_has_text : (v : Integer) → IsInI64 v.value → HasText IntegerText v
integer_has_text v r = (integer_shown v, (integer_shown_in_range v r).reads_to)
