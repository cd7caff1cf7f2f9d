-- The bytes of a configuration file.
--
-- Look for (here and in Runs): a name has `.` and `-`, a key only `-`, and neither has `_`. A blank may be
-- a CR, a space after a key may not. A run is the longest: else `ab` could be the key `a`.
use Rattle.std.specs.Prelude.{◌≡◌, ℕ, Bool, true, false, not, ◌&&◌, ◌||◌, ◌==◌, ◌⊎◌, List, [], ◌∷◌, ⊤}
use Rattle.std.specs.Char.{is_ascii_alphabetic, is_ascii_alphanumeric}

abbrev pub backspace : ℕ
backspace = 8

abbrev pub tab : ℕ
tab = 9

abbrev pub line_feed : ℕ
line_feed = 10

abbrev pub carriage_return : ℕ
carriage_return = 13

abbrev pub space : ℕ
space = 32

abbrev pub double_quote : ℕ
double_quote = 34

abbrev pub hash : ℕ
hash = 35

abbrev pub dash : ℕ
dash = 45

abbrev pub dot : ℕ
dot = 46

abbrev pub semicolon : ℕ
semicolon = 59

abbrev pub equals_sign : ℕ
equals_sign = 61

abbrev pub left_bracket : ℕ
left_bracket = 91

abbrev pub backslash : ℕ
backslash = 92

abbrev pub right_bracket : ℕ
right_bracket = 93

-- SP, TAB or CR
abbrev pub is_blank : ℕ → Bool
is_blank b = (b == space || b == tab) || b == carriage_return

-- `#` or `;`
abbrev pub is_comment_sign : ℕ → Bool
is_comment_sign b = b == hash || b == semicolon

-- a letter, a digit or `-`
abbrev pub is_key_byte : ℕ → Bool
is_key_byte b = is_ascii_alphanumeric b || b == dash

-- a byte of a key, or `.`
abbrev pub is_name_byte : ℕ → Bool
is_name_byte b = is_key_byte b || b == dot

-- any byte except LF and NUL
abbrev pub is_text_byte : ℕ → Bool
is_text_byte b = not (b == 0) && not (b == line_feed)

-- a byte that spells itself in quotes
abbrev pub is_plain_in_quotes : ℕ → Bool
is_plain_in_quotes b = is_text_byte b && (not (b == double_quote) && not (b == backslash))

-- a byte that spells itself in a value: in quotes if the flag is true, otherwise outside them
abbrev pub is_plain : Bool → ℕ → Bool
is_plain true b = is_plain_in_quotes b
is_plain false b = is_plain_in_quotes b && (not (is_blank b) && not (is_comment_sign b))

-- SP or TAB
abbrev pub is_space : ℕ → Bool
is_space b = b == space || b == tab

-- a byte of a comment: any byte except LF
abbrev pub is_comment_byte : ℕ → Bool
is_comment_byte b = not (b == line_feed)

-- the rest is empty, or begins with LF or NUL, so quotes cannot go on
abbrev pub EndsText : List ℕ → Type 0
EndsText [] = ⊤
EndsText (b ∷ rest) = is_text_byte b ≡ false

-- the rest is empty, or begins with LF or with CR LF
abbrev pub IsAtLineEnd : List ℕ → Type 0
IsAtLineEnd [] = ⊤
IsAtLineEnd (a ∷ []) = a ≡ line_feed
IsAtLineEnd (a ∷ b ∷ rest) = (a ≡ line_feed) ⊎ ((a ≡ carriage_return) × (b ≡ line_feed))

-- the text begins with a letter
abbrev pub BeginsWithLetter : List ℕ → Type 0
BeginsWithLetter text = (b : ℕ) × (rest : List ℕ) × (text ≡ b ∷ rest) × (is_ascii_alphabetic b ≡ true)
