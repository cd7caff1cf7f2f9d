-- Red, green and blue are shown in ASCII.
use Rattle.std.proofs.Common.{ℕ, ◌<◌, ◌≤◌, ◌/◌, ◌%◌, List, ◌∷◌, ◌++◌, [], arith, lit<}
use Rattle.std.proofs.lemmas.Bool.Decides.{nat_tests}
use Rattle.std.specs.Char.{digit_char}
use Rattle.std.specs.Str.{IsAscii, IsUtf8}
use Rattle.std.proofs.lemmas.Str.{IsUtf8-from_ascii}
use Rattle.std.proofs.lemmas.Str.Ascii.{IsAscii-cons, IsAscii-nil}
use Rattle.config_word.specs.declared.name.Name.TheVariants as names
use Rattle.config_word.specs.Name.{hex_pair, name_shown}

-- a digit below 16 is ASCII
digit_ascii : (n : ℕ) → n < 16 → digit_char n < 128
digit_ascii n h = grind (arith, nat_tests)

-- two digits of a byte before ASCII are ASCII
pair_ascii : (n : ℕ) (bs : List ℕ) → n ≤ 255 → IsAscii bs → IsAscii (hex_pair n ++ bs)
pair_ascii n bs h ascii =
    let low = IsAscii-cons _ bs (digit_ascii (n % 16) (omega arith)) ascii in
    IsAscii-cons _ (digit_char (n % 16) ∷ bs) (digit_ascii (n / 16) (omega arith)) low

-- red, green and blue are shown as a text
pub rgb_utf8 : (r g b : ℕ) → r ≤ 255 → g ≤ 255 → b ≤ 255 → IsUtf8 (name_shown (names.Rgb r g b))
rgb_utf8 r g b red green blue =
    let one = pair_ascii b [] blue IsAscii-nil in
    let two = pair_ascii g (hex_pair b) green one in
    let three = pair_ascii r (hex_pair g ++ hex_pair b) red two in
    IsUtf8-from_ascii _ (IsAscii-cons 35 (hex_pair r ++ hex_pair g ++ hex_pair b) (lit< tt) three)
