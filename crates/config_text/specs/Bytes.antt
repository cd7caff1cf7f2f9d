-- Names for bytes and for ranges of bytes, and what a text does not begin with.
--
-- Look for (here and in Numerals): 49 to 57 is `1` to `9`. Both lines of `IsInI64` end in 807, since
-- `negsuc n` is -(n + 1): with 806 a reader would refuse the least number.
use Rattle.std.specs.Prelude.{ℕ, ◌≢◌, ◌⊎◌, List, ◌++◌}
use Rattle.std.specs.Int.{IsInRange}

-- the space, U+0020
abbrev pub space : ℕ
space = 32

-- LF, U+000A
abbrev pub line_feed : ℕ
line_feed = 10

-- `1` to `9`
abbrev pub IsLeadingDigit : ℕ → Type 0
IsLeadingDigit c = IsInRange 49 57 c

-- `0` to `9` or `a` to `f`
abbrev pub IsLowerHex : ℕ → Type 0
IsLowerHex c = IsInRange 48 57 c ⊎ IsInRange 97 102 c

-- the text does not begin with this prefix
abbrev pub LacksFront : List ℕ → List ℕ → Type 0
LacksFront front text = (rest : List ℕ) → text ≢ front ++ rest
