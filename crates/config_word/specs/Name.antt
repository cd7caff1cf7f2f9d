-- Color names: eighteen words, `-1`, palette numbers, and `#` with hexadecimal digits.
--
-- Look for: `palette`: leading zeros and a `+`, no `-`, at most 255. `HexPair` asks both digits to be below
-- 16. `CanonicalName` has its own list of words.
use Rattle.std.specs.Prelude.{◌≡◌, ℕ, ◌+◌, ◌*◌, ◌/◌, ◌%◌, ◌<◌, ◌≤◌, ◌⊎◌, List, [], ◌∷◌, ◌++◌, length, codes}
use Rattle.std.specs.Prelude.{decimal, ⊤}
use Rattle.std.specs.Char.{digit_value, digit_char}
use Rattle.std.specs.List.{AllByRecursion}
use Rattle.std.specs.Str.Parse.{AllDigits, IsNumeral}
use Rattle.config_word.specs.declared.name.Name.{Name}
use Rattle.config_word.specs.declared.name.Name.TheVariants.{Normal, Default, Black, BrightBlack, Red}
use Rattle.config_word.specs.declared.name.Name.TheVariants.{BrightRed, Green, BrightGreen, Yellow}
use Rattle.config_word.specs.declared.name.Name.TheVariants.{BrightYellow, Blue, BrightBlue, Magenta}
use Rattle.config_word.specs.declared.name.Name.TheVariants.{BrightMagenta, Cyan, BrightCyan, White}
use Rattle.config_word.specs.declared.name.Name.TheVariants.{BrightWhite, Ansi, Rgb}
use Rattle.config_text.specs.Bytes.{IsLeadingDigit, IsLowerHex}
use Rattle.config_text.specs.Numerals.{place_sum}
use Rattle.config_text.specs.OneOf.{OneOf}
use Rattle.config_text.specs.SameWord.{SameWord}

-- the two lower-case hexadecimal digits of a number below 256
abbrev pub hex_pair : ℕ → List ℕ
hex_pair n = digit_char (n / 16) ∷ digit_char (n % 16) ∷ []

-- how a name is shown: its word, its number in decimal, or `#` and six lower-case hexadecimal digits
abbrev pub name_shown : Name → List ℕ
name_shown Normal = codes "normal"
name_shown Default = codes "default"
name_shown Black = codes "black"
name_shown BrightBlack = codes "brightblack"
name_shown Red = codes "red"
name_shown BrightRed = codes "brightred"
name_shown Green = codes "green"
name_shown BrightGreen = codes "brightgreen"
name_shown Yellow = codes "yellow"
name_shown BrightYellow = codes "brightyellow"
name_shown Blue = codes "blue"
name_shown BrightBlue = codes "brightblue"
name_shown Magenta = codes "magenta"
name_shown BrightMagenta = codes "brightmagenta"
name_shown Cyan = codes "cyan"
name_shown BrightCyan = codes "brightcyan"
name_shown White = codes "white"
name_shown BrightWhite = codes "brightwhite"
name_shown (Ansi n) = decimal n
name_shown (Rgb r g b) = codes "#" ++ hex_pair r ++ hex_pair g ++ hex_pair b

-- a name that is shown by its numbers: a palette number, or red, green and blue
abbrev pub HasNumbers : Name → Type 0
HasNumbers (Ansi _) = ⊤
HasNumbers (Rgb _ _ _) = ⊤
HasNumbers _ = ⊥

-- the eighteen names that are words
unfoldable pub word_names : List Name
word_names =
    Normal ∷ Default ∷ Black ∷ BrightBlack ∷ Red ∷ BrightRed ∷ Green ∷ BrightGreen ∷ Yellow ∷ BrightYellow
    ∷ Blue
    ∷ BrightBlue ∷ Magenta ∷ BrightMagenta ∷ Cyan ∷ BrightCyan ∷ White ∷ BrightWhite ∷ []

-- two hexadecimal digits of either case, and the number that they write
pub record HexPair (high low n : ℕ) : Type 0 where
  pub high_digit : digit_value high < 16
  pub low_digit : digit_value low < 16
  pub number : n ≡ 16 * digit_value high + digit_value low

-- name text: the word of a name, ignoring ASCII case; `-1`; an optional `+` and decimal digits whose number
-- is at most 255; or `#` and two hexadecimal digits for each of red, green and blue, or one digit for each,
-- which is taken twice
pub data NameText (t : List ℕ) (n : Name) : Type 0 where
  word : OneOf word_names n → SameWord t (name_shown n) → NameText t n
  minus_one : t ≡ codes "-1" → n ≡ Normal → NameText t n
  palette : (ds : List ℕ) (k : ℕ) → (t ≡ ds) ⊎ (t ≡ codes "+" ++ ds) → IsNumeral 10 ds → k ≡ place_sum ds 10
      → k ≤ 255
      → n ≡ Ansi k → NameText t n
  pairs : (a b c d e f r g u : ℕ) → t ≡ codes "#" ++ a ∷ b ∷ c ∷ d ∷ e ∷ f ∷ []
      → HexPair a b r → HexPair c d g → HexPair e f u → n ≡ Rgb r g u → NameText t n
  doubled : (a c e r g u : ℕ) → t ≡ codes "#" ++ a ∷ c ∷ e ∷ []
      → HexPair a a r → HexPair c c g → HexPair e e u → n ≡ Rgb r g u → NameText t n

-- a name as the code keeps it: each number is at most 255
abbrev pub NameFits : Name → Type 0
NameFits (Ansi n) = n ≤ 255
NameFits (Rgb r g b) = (r ≤ 255) × (g ≤ 255) × (b ≤ 255)
NameFits _ = ⊤

-- the words that are canonical texts
unfoldable pub lower_words : List (List ℕ)
lower_words =
    codes "normal" ∷ codes "default" ∷ codes "black" ∷ codes "brightblack" ∷ codes "red"
    ∷ codes "brightred" ∷ codes "green" ∷ codes "brightgreen" ∷ codes "yellow" ∷ codes "brightyellow"
    ∷ codes "blue" ∷ codes "brightblue" ∷ codes "magenta" ∷ codes "brightmagenta" ∷ codes "cyan"
    ∷ codes "brightcyan" ∷ codes "white" ∷ codes "brightwhite" ∷ []

-- the canonical texts: the words in lower case, 0 to 255 without leading zeros, `#` and six lower-case digits
pub data CanonicalName (t : List ℕ) : Type 0 where
  word : OneOf lower_words t → CanonicalName t
  nought : t ≡ codes "0" → CanonicalName t
  palette : (d : ℕ) (ds : List ℕ) → t ≡ d ∷ ds → IsLeadingDigit d → AllDigits 10 ds → place_sum t 10 ≤ 255
      → CanonicalName t
  rgb : (ds : List ℕ) → t ≡ codes "#" ++ ds → length ds ≡ 6 → AllByRecursion IsLowerHex ds → CanonicalName t
