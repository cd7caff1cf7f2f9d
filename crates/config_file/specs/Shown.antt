-- Texts as messages show them.
use Rattle.std.specs.Prelude.{ℕ, zero, suc, ◌-◌, ◌/◌, ◌%◌, ◌==◌, ◌&&◌, ◌||◌, nat_lt, List, [], ◌∷◌, ◌++◌}
use Rattle.std.specs.Prelude.{Bool, take, flat_map, encode_utf8, Option, Some, None, if◌then◌else◌}
use Rattle.std.specs.Char.{digit_char}
use Rattle.bstr.specs.Utf8.{decoded}
use Rattle.config_file.specs.Bytes.{backslash, double_quote}

-- a byte as `\x` and two hexadecimal digits
abbrev pub hex : ℕ → List ℕ
hex b = backslash ∷ 0x78 ∷ digit_char (b / 16) ∷ digit_char (b % 16) ∷ []

-- U+0000 to U+001F, and U+007F to U+009F
abbrev pub is_control : ℕ → Bool
is_control c = nat_lt c 0x20 || (nat_lt 0x7E c && nat_lt c 0xA0)

-- how a character is shown, or bytes that are no character: these and the bytes of a control character in
-- hexadecimal, a backslash and a double quote after a backslash, and any other character as it is
abbrev pub piece_shown : Option ℕ → List ℕ → List ℕ
piece_shown None bytes = flat_map hex bytes
piece_shown (Some c) bytes =
    if is_control c then flat_map hex bytes
    else if c == backslash || c == double_quote then backslash ∷ c ∷ []
    else encode_utf8 c

-- how the part of the text after its first `n` bytes is shown
unfoldable pub shown_past : ℕ → List ℕ → List ℕ
shown_past n [] = []
shown_past (suc n) (b ∷ bs) = shown_past n bs
shown_past zero (b ∷ bs) =
    let piece = decoded (b ∷ bs) in
    piece_shown piece.char (take piece.size (b ∷ bs)) ++ shown_past (piece.size - 1) bs

-- a text with its control characters and invalid UTF-8 escaped
abbrev pub shown : List ℕ → List ℕ
shown = shown_past 0

-- the text in double quotes
abbrev pub quoted : List ℕ → List ℕ
quoted text = double_quote ∷ (shown text ++ double_quote ∷ [])
