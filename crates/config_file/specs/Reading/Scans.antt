-- What the scans of the reader have passed, and where they go on.
use Rattle.std.specs.Prelude.{◌≡◌, ℕ, Bool, true, false, not, List, [], ◌∷◌, ◌++◌, Option, Some, None, ⊤}
use Rattle.std.specs.Prelude.{◌&&◌, ◌||◌, ◌==◌, if◌then◌else◌, is_some, take, drop}
use Rattle.std.specs.Int.{w64, trailing_zeros}
use Rattle.config_file.specs.declared.bytes.Class.{Class}
use Rattle.config_file.specs.declared.bytes.Class.TheVariants.{Name, Key, Blank, Space, Comment, Unescaped}
use Rattle.config_file.specs.declared.bytes.Class.TheVariants.{Word, Plain, InQuotes}
use Rattle.config_file.specs.Bytes.{line_feed, carriage_return, double_quote, backslash, is_name_byte}
use Rattle.config_file.specs.Bytes.{is_key_byte, is_blank, is_space, is_comment_byte, is_comment_sign}
use Rattle.config_file.specs.Bytes.{is_text_byte, is_plain_in_quotes}
use Rattle.config_file.specs.Subsection.{SpellsSubsection, IsSubsection}
use Rattle.config_file.specs.Value.{Ending, Spells, SpellsValue, itself, escape, line_feeds}

-- the scan of a subsection has come to this rest of the text
pub record PassedSubsection (text at : List ℕ) : Type 0 where
  pub raw : List ℕ
  pub joined : text ≡ raw ++ at
  pub extends : (more spelled : List ℕ) → SpellsSubsection more spelled → IsSubsection (raw ++ more)

-- the scan of a value has come to this rest of the text, in quotes or not
pub record PassedValue (text : List ℕ) (quoted : Bool) (at : List ℕ) : Type 0 where
  pub raw : List ℕ
  pub value : List ℕ
  pub held : List ℕ
  pub joined : text ≡ raw ++ at
  pub extends : (more spelled : List ℕ) (ending : Ending)
      → Spells itself quoted value held more spelled ending → SpellsValue (raw ++ more) spelled ending

-- this many LFs precede this rest of the text
abbrev pub HasLinesBefore : List ℕ → ℕ → List ℕ → Type 0
HasLinesBefore text lines at = (raw : List ℕ) → text ≡ raw ++ at → line_feeds raw ≡ lines

-- whether the scan of a value goes on after this byte, unless it is a quote or a backslash
abbrev pub goes_on : Bool → ℕ → Bool
goes_on true b = is_text_byte b
goes_on false b = is_text_byte b && not (is_comment_sign b)

-- a byte of a subsection that no backslash precedes, and that is none
abbrev pub is_unescaped : ℕ → Bool
is_unescaped b = not (b == backslash)

-- no blank, no quote and no backslash
abbrev pub is_word_byte : ℕ → Bool
is_word_byte b = (not (is_blank b) && not (b == double_quote)) && not (b == backslash)

-- a byte that spells itself in quotes, or a byte of a word outside them
abbrev pub spells_itself : Bool → ℕ → Bool
spells_itself true b = is_plain_in_quotes b
spells_itself false b = is_word_byte b

-- the scan of a value goes on after this byte, in quotes and outside them, and it is no quote and no
-- backslash
abbrev pub is_plain_byte : ℕ → Bool
is_plain_byte b = (goes_on false b && not (b == double_quote)) && not (b == backslash)

-- no quote and no backslash
abbrev pub is_unmarked : ℕ → Bool
is_unmarked b = not (b == double_quote) && not (b == backslash)

-- the test of a class of bytes
abbrev pub passes : Class → ℕ → Bool
passes Name = is_name_byte
passes Key = is_key_byte
passes Blank = is_blank
passes Space = is_space
passes Comment = is_comment_byte
passes Unescaped = is_unescaped
passes Word = is_word_byte
passes Plain = is_plain_byte
passes InQuotes = is_plain_in_quotes

-- the sixteen bytes at this place, or those that are left there
abbrev pub block : ℕ → List ℕ → List ℕ
block at text = take 16 (drop at text)

-- the place of the lowest bit that is set, or 16 if none is
abbrev pub first_set : ℕ → ℕ
first_set mask = if mask == 0 then 16 else trailing_zeros w64 mask

-- the rest is empty, or begins with a byte at which the scan of a value ends
abbrev pub EndsScan : Bool → List ℕ → Type 0
EndsScan quoted [] = ⊤
EndsScan quoted (b ∷ rest) = goes_on quoted b ≡ false

-- after a backslash, the text begins with a byte that it escapes, or with a line end, and this rest follows
pub data Escapes : List ℕ → List ℕ → Type 0 where
  letter : {e c : ℕ} {text rest : List ℕ} → text ≡ e ∷ rest → escape e ≡ Some c → Escapes text rest
  line : {e : ℕ} {text rest : List ℕ} → text ≡ e ∷ rest → e ≡ line_feed → Escapes text rest
  line_after_return : {e f : ℕ} {text rest : List ℕ}
      → text ≡ e ∷ f ∷ rest → e ≡ carriage_return → f ≡ line_feed
      → Escapes text rest

-- whether the text begins with a quote or a backslash
abbrev pub begins_with_mark : List ℕ → Bool
begins_with_mark [] = false
begins_with_mark (b ∷ rest) = b == double_quote || b == backslash

-- the byte that a backslash before this text spells, unless it continues the line, and what follows
abbrev pub unescape : List ℕ → Option ℕ × List ℕ
unescape [] = (None, [])
unescape (e ∷ rest) =
    if is_some (escape e) then (escape e, rest)
    else if e == carriage_return then (None, drop 1 rest)
    else (None, rest)

-- whether this byte is a blank outside quotes
abbrev pub is_held_back : Bool → ℕ → Bool
is_held_back true b = false
is_held_back false b = is_blank b

-- the value, with this byte appended if there is one
abbrev pub append_some : List ℕ → Option ℕ → List ℕ
append_some value None = value
append_some value (Some b) = value ++ b ∷ []
