-- The table of digits: the value of each byte in base 16, or 16 if the byte is no digit.
use Rattle.std.proofs.Common.{◌≡◌, ℕ, zero, suc, ◌+◌, ◌<◌, ◌≤◌, ◌==◌, nat_lt, List, [], ◌∷◌, length, get_or}
use Rattle.std.proofs.Common.{Bool, true, ◌&&◌, ◌||◌, refl, subst, arith}
use Rattle.std.proofs.lemmas.Bool.Decides.{nat_tests}
use Rattle.std.proofs.lemmas.Bool.{and_parts}
use Rattle.std.specs.Char.{digit_value}
use Rattle.config_text.specs.declared.digits.TheConstants.{DIGITS}

-- whether the byte has this value in the table: its digit value, or 16 if that is not below 16
abbrev is_row : ℕ → ℕ → Bool
is_row byte worth = (nat_lt (digit_value byte) 16 && (worth == digit_value byte))
    || (nat_lt 15 (digit_value byte) && (worth == 16))

-- whether these are the values in the table from this byte on
abbrev are_rows : ℕ → List ℕ → Bool
are_rows byte [] = true
are_rows byte (worth ∷ rows) = is_row byte worth && are_rows (suc byte) rows

row_at : (rows : List ℕ) (from i byte : ℕ) → byte ≡ from + i → are_rows from rows ≡ true → i < length rows
    → is_row byte (get_or rows i 0) ≡ true
row_at [] from i byte e h l = absurd (omega arith)
row_at (worth ∷ rows) from zero byte e h l =
    let same : from ≡ byte = omega arith in
    subst (λ b. is_row b worth ≡ true) same (and_parts (is_row from worth) (are_rows (suc from) rows) h).0
row_at (worth ∷ rows) from (suc i) byte e h l =
    row_at rows (suc from) i byte (omega arith) (and_parts (is_row from worth) (are_rows (suc from) rows) h).1
    (omega arith)

-- the table has the right value for each byte
pub digit_at : (byte : ℕ) → byte < 256 → is_row byte (get_or DIGITS byte 0) ≡ true
digit_at byte l = row_at DIGITS 0 byte byte (omega arith) refl l

pub is_digit : (byte worth : ℕ) → byte < 256 → worth ≡ get_or DIGITS byte 0 → worth < 16
    → digit_value byte ≡ worth
is_digit byte worth l e small = grind (arith, nat_tests, digit_at byte l)

pub is_other : (byte worth : ℕ) → byte < 256 → worth ≡ get_or DIGITS byte 0 → ¬ (worth < 16)
    → ¬ (digit_value byte < 16)
is_other byte worth l e large = λ small. grind (arith, nat_tests, digit_at byte l)

pub is_most : (byte worth : ℕ) → byte < 256 → worth ≡ get_or DIGITS byte 0 → worth ≤ 16
is_most byte worth l e = grind (arith, nat_tests, digit_at byte l)
