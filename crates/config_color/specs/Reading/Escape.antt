-- What a sequence is before its last byte, and the table of the code. Only the contracts of private functions
-- cite it.
use Rattle.std.specs.Prelude.{◌≡◌, ℕ, ◌+◌, ◌≤◌, List, [], ◌∷◌, ◌++◌, codes, length}
use Rattle.std.specs.Int.RustNames.{bit_or}
use Rattle.std.specs.List.{join_with_byte}
use Rattle.config_color.specs.declared.escape.AttributeCode.{AttributeCode}

-- the bits and the code of a row of the code's table
abbrev pub code_row : AttributeCode → ℕ × List ℕ
code_row row = (bit_or row.one.0 row.other.0, row.code.now)

-- the sequence of some codes without its `m`
abbrev pub opened : List (List ℕ) → List ℕ
opened [] = []
opened (code ∷ more) = 27 ∷ codes "[" ++ join_with_byte 59 (code ∷ more)

-- how many bytes the codes of all these rows have, with a separator before each
abbrev pub size : List (ℕ × List ℕ) → ℕ
size [] = 0
size (row ∷ rows) = 1 + length row.1 + size rows

-- the new text has these codes after those of the old one, and at most `most` bytes more; an empty text is
-- counted as one byte, since ESC and `[` are one byte longer than a separator
pub record Continues (codes : List (List ℕ)) (most : ℕ) (old new : List ℕ) : Type 0 where
  pub adds : (done : List (List ℕ)) → old ≡ opened done → new ≡ opened (done ++ codes)
  pub short : (n : ℕ) → 1 ≤ n → length old ≤ n → length new ≤ n + most
