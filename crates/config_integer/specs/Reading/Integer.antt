-- A function that reads integer texts in one pass over the bytes, as the code does.
use Rattle.std.specs.Prelude.{ℕ, ◌+◌, ◌*◌, nat_lt, nat_le, ◌==◌, ℤ, pos, neg_ℤ, Bool, true, false, cond, ◌||◌}
use Rattle.std.specs.Prelude.{List, [], ◌∷◌, drop, slice_index, Option, Some, None}
use Rattle.std.specs.Option.{option_map}
use Rattle.std.specs.Char.{digit_value}
use Rattle.config_integer.specs.declared.integer.Integer.{Integer}
use Rattle.config_integer.specs.declared.suffix.Suffix.{Suffix}
use Rattle.config_integer.specs.declared.suffix.Suffix.TheVariants.{Kibi, Mebi, Gibi}

-- the suffix of a letter: `k`, `m` or `g` in either case
abbrev pub unit_of : ℕ → Option Suffix
unit_of c =
    cond (c == 107 || c == 75) (Some Kibi)
    (cond (c == 109 || c == 77) (Some Mebi)
    (cond (c == 103 || c == 71) (Some Gibi) None))

-- the suffix of a text of one letter
unfoldable pub suffix_of : List ℕ → Option Suffix
suffix_of (c ∷ []) = unit_of c
suffix_of _ = None

-- the number that `number` and the digits after it write, at most `limit`, and the suffix after the digits
abbrev pub number_from : ℕ → ℕ → ℕ → List ℕ → Option (ℕ × Option Suffix)
number_from base limit number [] = Some (number, None)
number_from base limit number (c ∷ cs) =
    cond (nat_lt (digit_value c) base)
    (cond (nat_le (number * base + digit_value c) limit)
    (number_from base limit (number * base + digit_value c) cs) None)
    (option_map (λ s. (number, Some s)) (suffix_of (c ∷ cs)))

-- the number that one or more digits write, at most `limit`, and the suffix after the digits
abbrev pub number_and_suffix : ℕ → ℕ → List ℕ → Option (ℕ × Option Suffix)
number_and_suffix base limit [] = None
number_and_suffix base limit (c ∷ cs) =
    cond (nat_lt (digit_value c) base) (number_from base limit 0 (c ∷ cs)) None

-- the base that the first bytes of a text mark, and the text from its first digit on
abbrev pub base_and_digits : List ℕ → ℕ × List ℕ
base_and_digits t =
    cond (slice_index t 0 == 48)
    (cond (slice_index t 1 == 120 || slice_index t 1 == 88) (16, drop 2 t)
    (cond (slice_index t 1 == 98 || slice_index t 1 == 66) (2, drop 2 t) (8, t)))
    (10, t)

-- the magnitude and the suffix, from the base and the text from its first digit on
abbrev pub magnitude_in : ℕ → ℕ × List ℕ → Option (ℕ × Option Suffix)
magnitude_in limit b = number_and_suffix b.0 limit b.1

-- the magnitude and the suffix of a text without a sign
abbrev pub magnitude_of : ℕ → List ℕ → Option (ℕ × Option Suffix)
magnitude_of limit t = magnitude_in limit (base_and_digits t)

-- whether a text begins with `-`, and the text without its sign
abbrev pub sign_and_rest : List ℕ → Bool × List ℕ
sign_and_rest t =
    cond (slice_index t 0 == 45) (true, drop 1 t) (cond (slice_index t 0 == 43) (false, drop 1 t) (false, t))

-- the largest magnitude in range of a negative number, and of any other number
abbrev pub largest : Bool → ℕ
largest true = 9223372036854775808
largest false = 9223372036854775807

-- the number with this sign and magnitude
abbrev pub with_sign : Bool → ℕ → ℤ
with_sign true n = neg_ℤ (pos n)
with_sign false n = pos n

-- the integer with this sign, magnitude and suffix
abbrev pub signed_integer : Bool → ℕ × Option Suffix → Integer
signed_integer is_negative r = record { value = with_sign is_negative r.0; suffix = r.1 }

-- the integer of a sign and the text after it
abbrev pub integer_after : Bool × List ℕ → Option Integer
integer_after s = option_map (signed_integer s.0) (magnitude_of (largest s.0) s.1)

abbrev pub integer_of : List ℕ → Option Integer
integer_of t = integer_after (sign_and_rest t)
