-- Numbers that are written in digits. The value of a digit is std's: 0 to 9 for `0` to `9`, and from 10 on
-- for letters in either case. Only `IsInI64` bounds a number.
use Rattle.std.specs.Prelude.{ℕ, ℤ, pos, negsuc, ◌+◌, ◌*◌, ◌^◌, ◌≤ℤ◌, List, [], ◌∷◌, length}
use Rattle.std.specs.Char.{digit_value}

-- place sum: the sum of each digit's value times the base to the power of its place, from 0 at the right
abbrev pub place_sum : List ℕ → ℕ → ℕ
place_sum [] base = 0
place_sum (c ∷ cs) base = digit_value c * base ^ length cs + place_sum cs base

-- in range: from -9223372036854775808 to 9223372036854775807, the numbers of `i64`
pub record IsInI64 (z : ℤ) : Type 0 where
  pub low : negsuc 9223372036854775807 ≤ℤ z
  pub high : z ≤ℤ pos 9223372036854775807
