-- Integers: an optional sign, a magnitude in one of five forms, and at most one suffix.
--
-- Look for: `decimal` begins with `1` to `9`: with `0`, `010` would be 10 and 8, and `one_value` false.
-- `IsNumeral`, and not `AllDigits`, after `0x`: else `0x` is 0. At most one sign, and no white space
-- anywhere. `NumberText` bounds the number, not the product. `CanonicalNumber` has its own bounds.
use Rattle.std.specs.Prelude.{◌≡◌, ℕ, ℤ, pos, neg_ℤ, ◌*ℤ◌, ◌≤◌, ◌⊎◌, List, [], ◌∷◌, ◌++◌, codes, Option, Some}
use Rattle.std.specs.Prelude.{None}
use Rattle.std.specs.Fmt.{signed_decimal}
use Rattle.std.specs.Option.{option_map_or}
use Rattle.std.specs.Str.Parse.{AllDigits, IsNumeral}
use Rattle.config_integer.specs.declared.integer.Integer.{Integer}
use Rattle.config_integer.specs.declared.suffix.Suffix.{Suffix}
use Rattle.config_text.specs.declared.errors.Fault.{Fault}
use Rattle.config_text.specs.declared.errors.Fault.TheVariants as faults
use Rattle.config_text.specs.Bytes.{IsLeadingDigit}
use Rattle.config_text.specs.Value.{IsRefused}
use Rattle.config_text.specs.Numerals.{place_sum, IsInI64}
use Rattle.config_integer.specs.Suffix.{SuffixText, CanonicalSuffix, factor, suffix_shown}

-- magnitude: a number without a sign, in one of five forms
pub data Magnitude (t : List ℕ) (n : ℕ) : Type 0 where
  nought : t ≡ codes "0" → n ≡ 0 → Magnitude t n
  decimal : (d : ℕ) (ds : List ℕ) → t ≡ d ∷ ds → IsLeadingDigit d → AllDigits 10 ds → n ≡ place_sum t 10
      → Magnitude t n
  octal : (ds : List ℕ) → t ≡ codes "0" ++ ds → IsNumeral 8 ds → n ≡ place_sum ds 8 → Magnitude t n
  hexadecimal : (ds : List ℕ) → (t ≡ codes "0x" ++ ds) ⊎ (t ≡ codes "0X" ++ ds) → IsNumeral 16 ds
      → n ≡ place_sum ds 16
      → Magnitude t n
  binary : (ds : List ℕ) → (t ≡ codes "0b" ++ ds) ⊎ (t ≡ codes "0B" ++ ds) → IsNumeral 2 ds
      → n ≡ place_sum ds 2
      → Magnitude t n

-- a magnitude, or a sign and a magnitude, with its signed number
pub data SignedText (t : List ℕ) (z : ℤ) : Type 0 where
  plain : (n : ℕ) → Magnitude t n → z ≡ pos n → SignedText t z
  plus : (m : List ℕ) (n : ℕ) → t ≡ codes "+" ++ m → Magnitude m n → z ≡ pos n → SignedText t z
  minus : (m : List ℕ) (n : ℕ) → t ≡ codes "-" ++ m → Magnitude m n → z ≡ neg_ℤ (pos n) → SignedText t z

-- number text: a signed text whose number is in range
pub record NumberText (t : List ℕ) (z : ℤ) : Type 0 where
  pub signed : SignedText t z
  pub in_range : IsInI64 z

-- the empty text if there is no suffix, otherwise a suffix text
abbrev pub SuffixIfAny : List ℕ → Option Suffix → Type 0
SuffixIfAny t None = t ≡ []
SuffixIfAny t (Some s) = SuffixText t s

-- integer text: a number text, then nothing or one suffix text
pub record IntegerText (t : List ℕ) (v : Integer) : Type 0 where
  pub front : List ℕ
  pub back : List ℕ
  pub parts : t ≡ front ++ back
  pub number : NumberText front v.value
  pub unit : SuffixIfAny back v.suffix

-- product: the number times the factor of its suffix, or times 1 if there is no suffix; it has no bound
abbrev pub product : Integer → ℤ
product v = v.value *ℤ pos (option_map_or factor v.suffix 1)

-- the text is an integer text with this product
pub record ProductText (t : List ℕ) (z : ℤ) : Type 0 where
  pub integer : Integer
  pub text : IntegerText t integer
  pub number : z ≡ product integer

-- the text is an integer text with this product, which is in range
pub record ProductInRange (t : List ℕ) (z : ℤ) : Type 0 where
  pub product_text : ProductText t z
  pub in_range : IsInI64 z

-- the fault of a text that gives no number: `Integer` if it is not an integer text, `Overflow` if its product
-- is out of range, and `OutOfRange` if the caller's type refuses the product
abbrev pub IntegerFault : (ℤ → Type 0) → List ℕ → Fault → Type 0
IntegerFault refuses t faults.Integer = IsRefused IntegerText t
IntegerFault refuses t faults.Overflow = (z : ℤ) × ProductText t z × ¬ (IsInI64 z)
IntegerFault refuses t faults.OutOfRange = (z : ℤ) × ProductInRange t z × refuses z
IntegerFault refuses t _ = ⊥

-- how an integer is shown: its number in decimal, and its suffix, if it has one
abbrev pub integer_shown : Integer → List ℕ
integer_shown v = signed_decimal v.value ++ option_map_or suffix_shown v.suffix []

-- decimal digits that begin with 1 to 9 and write a number of at most `most`
pub record PlainDigits (most : ℕ) (t : List ℕ) : Type 0 where
  pub first : ℕ
  pub others : List ℕ
  pub spelled : t ≡ first ∷ others
  pub from_one : IsLeadingDigit first
  pub digits : AllDigits 10 others
  pub small : place_sum t 10 ≤ most

-- the canonical texts of numbers: `0`, or plain digits, with a `-` before them if the number is negative
pub data CanonicalNumber (t : List ℕ) : Type 0 where
  nought : t ≡ codes "0" → CanonicalNumber t
  positive : PlainDigits 9223372036854775807 t → CanonicalNumber t
  negative : (m : List ℕ) → t ≡ codes "-" ++ m → PlainDigits 9223372036854775808 m → CanonicalNumber t

-- the canonical texts of integers: a canonical number, then nothing or a canonical suffix
pub record CanonicalInteger (t : List ℕ) : Type 0 where
  pub front : List ℕ
  pub back : List ℕ
  pub parts : t ≡ front ++ back
  pub number : CanonicalNumber front
  pub unit : (back ≡ []) ⊎ CanonicalSuffix back
