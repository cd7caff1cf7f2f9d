-- Configuration files: the entries of a text, and the error if the text is refused.
--
-- Look for: each case of `Reads` begins with another byte; an error comes last. Where a case adds 1 to its
-- line, Git reports one line more.
use Rattle.std.specs.Prelude.{◌≡◌, ℕ, ◌+◌, Bool, true, false, List, [], ◌∷◌, Option, Some, None}
use Rattle.std.specs.Prelude.{if◌then◌else◌, ◌==◌, ◌&&◌, ◌||◌, ◌⊎◌}
use Rattle.std.specs.Char.{is_ascii_alphabetic}
use Rattle.config_file.specs.declared.errors.Why.{Why}
use Rattle.config_file.specs.declared.errors.FileError.{FileError}
use Rattle.config_file.specs.Bytes.{line_feed, left_bracket, equals_sign, is_key_byte, is_space, is_blank}
use Rattle.config_file.specs.Bytes.{is_comment_sign, is_comment_byte, IsAtLineEnd}
use Rattle.config_file.specs.Runs.{Run}
use Rattle.config_file.specs.Header.{Section, Header, HeaderStops, why_at, BeginsWithout}
use Rattle.config_file.specs.Value.{TakesValue, ValueStops}

-- an entry: its section if a header precedes it, its key, the bytes of its value if it has `=`, and its line
pub record Entry : Type 0 where
  pub section : Option Section
  pub key : List ℕ
  pub value : Option (List ℕ)
  pub line : ℕ

abbrev pub entry_at : Option Section → List ℕ → Option (List ℕ) → ℕ → Entry
entry_at section key value line = record { section = section; key = key; value = value; line = line }

abbrev pub error_at : ℕ → Why → FileError
error_at line why = record { line = line; why = why }

-- the text begins with this key, then has any number of spaces and TABs, and then this rest
pub record TakesKey (text key rest : List ℕ) : Type 0 where
  pub spaced : List ℕ
  pub spaces : List ℕ
  pub key_run : Run is_key_byte text key spaced
  pub space_run : Run is_space spaced spaces rest

-- the text begins with an entry: a key alone, or a key, `=` and a value, continued over this many line ends
pub data TakesEntry : List ℕ → List ℕ → Option (List ℕ) → ℕ → List ℕ → Type 0 where
  alone : {text key rest : List ℕ}
      → TakesKey text key rest → IsAtLineEnd rest
      → TakesEntry text key None 0 rest
  valued : {b lines : ℕ} {text key after raw rest : List ℕ}
      → TakesKey text key (b ∷ after) → b ≡ equals_sign → TakesValue after raw lines rest
      → TakesEntry text key (Some raw) lines rest

-- an entry that is refused: how many lines after its first one the error is, and why
pub data EntryStops : List ℕ → ℕ → Why → Type 0 where
  key : {text key rest : List ℕ}
      → TakesKey text key rest → BeginsWithout equals_sign rest → ¬ (IsAtLineEnd rest)
      → EntryStops text 0 (why_at rest)
  value : {b lines : ℕ} {why : Why} {text key after : List ℕ}
      → TakesKey text key (b ∷ after) → b ≡ equals_sign → ValueStops after lines why
      → EntryStops text lines why

-- whether an item can begin with this byte: a line end, a blank, a comment, a header or an entry
abbrev pub begins_item : ℕ → Bool
begins_item b =
    (b == line_feed || is_blank b) || (is_comment_sign b || (b == left_bracket || is_ascii_alphabetic b))

-- read in this section and from this line on, the text has these entries, up to its end or to this error
pub data Reads : Option Section → ℕ → List ℕ → List Entry → Option FileError → Type 0 where
  ends : {section : Option Section} {line : ℕ} → Reads section line [] [] None
  blank : {section : Option Section} {line b : ℕ} {text : List ℕ}
      {entries : List Entry} {error : Option FileError}
      → is_blank b ≡ true → Reads section line text entries error
      → Reads section line (b ∷ text) entries error
  line_end : {section : Option Section} {line b : ℕ} {text : List ℕ}
      {entries : List Entry} {error : Option FileError}
      → b ≡ line_feed → Reads section (line + 1) text entries error
      → Reads section line (b ∷ text) entries error
  comment : {section : Option Section} {line b : ℕ} {text comment rest : List ℕ}
      {entries : List Entry} {error : Option FileError}
      → is_comment_sign b ≡ true → Run is_comment_byte text comment rest
      → Reads section line rest entries error
      → Reads section line (b ∷ text) entries error
  header : {section : Option Section} {next : Section} {line b : ℕ} {text rest : List ℕ}
      {entries : List Entry} {error : Option FileError}
      → b ≡ left_bracket → Header text next rest → Reads (Some next) line rest entries error
      → Reads section line (b ∷ text) entries error
  entry : {section : Option Section} {line lines b : ℕ} {text key rest : List ℕ} {value : Option (List ℕ)}
      {entries : List Entry} {error : Option FileError}
      → is_ascii_alphabetic b ≡ true → TakesEntry (b ∷ text) key value lines rest
      → Reads section (line + lines) rest entries error
      → Reads section line (b ∷ text) (entry_at section key value (line + lines) ∷ entries) error
  header_refused : {section : Option Section} {line lines b : ℕ} {why : Why} {text : List ℕ}
      → b ≡ left_bracket → HeaderStops text lines why
      → Reads section line (b ∷ text) [] (Some (error_at (line + lines) why))
  entry_refused : {section : Option Section} {line lines b : ℕ} {why : Why} {text : List ℕ}
      → is_ascii_alphabetic b ≡ true → EntryStops (b ∷ text) lines why
      → Reads section line (b ∷ text) [] (Some (error_at (line + lines) why))
  no_item : {section : Option Section} {line b : ℕ} {text : List ℕ}
      → begins_item b ≡ false
      → Reads section line (b ∷ text) [] (Some (error_at line (why_at (b ∷ text))))

-- what follows the byte order mark, if the text begins with it
abbrev pub after_mark : List ℕ → Option (List ℕ)
after_mark (a ∷ b ∷ c ∷ rest) = if (a == 0xef && b == 0xbb) && c == 0xbf then Some rest else None
after_mark _ = None

-- the first line holds only the first one or two bytes of the mark
abbrev pub IsPartOfMark : List ℕ → Type 0
IsPartOfMark [] = ⊥
IsPartOfMark (a ∷ []) = a ≡ 0xef
IsPartOfMark (a ∷ b ∷ rest) = (a ≡ 0xef) × (IsAtLineEnd (b ∷ rest) ⊎ ((b ≡ 0xbb) × IsAtLineEnd rest))

-- the number of the first line, and the text without its mark; Git counts one more after a part of the mark
pub data Begins : List ℕ → ℕ → List ℕ → Type 0 where
  marked : {text rest : List ℕ} → after_mark text ≡ Some rest → Begins text 1 rest
  part_of_mark : {text : List ℕ} → IsPartOfMark text → Begins text 2 text
  unmarked : {text : List ℕ} → after_mark text ≡ None → ¬ (IsPartOfMark text) → Begins text 1 text

-- the text has these entries, and this error if it is not a configuration file
pub record IsFile (text : List ℕ) (entries : List Entry) (error : Option FileError) : Type 0 where
  pub line : ℕ
  pub rest : List ℕ
  pub begins : Begins text line rest
  pub reads : Reads None line rest entries error
