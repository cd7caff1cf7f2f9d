-- Spellings: the bytes that read back to a value, a header or an entry.
--
-- Look for: how entries are written: that they are read back is proved, and that they are what Git writes
-- (`git_spelled`, `spelled_section`).
use Rattle.std.specs.Prelude.{◌≡◌, ℕ, ◌+◌, Bool, true, false, ◌==◌, ◌||◌, if◌then◌else◌, List, [], ◌∷◌, ◌++◌}
use Rattle.std.specs.Prelude.{Option, Some, None, ⊤, ◌⊎◌}
use Rattle.std.specs.Char.{is_ascii_alphabetic}
use Rattle.std.specs.List.{list_any, flat_map}
use Rattle.config_file.specs.Bytes.{tab, line_feed, carriage_return, space, double_quote, backslash}
use Rattle.config_file.specs.Bytes.{equals_sign, left_bracket, right_bracket, is_comment_sign, is_key_byte}
use Rattle.config_file.specs.Runs.{Run}
use Rattle.config_file.specs.Subsection.{SpellsSubsection}
use Rattle.config_file.specs.Header.{Section, Header}
use Rattle.config_file.specs.Value.{outside, Spells, SpellsValue, as_space, line_feeds}
use Rattle.config_file.specs.File.{Entry, IsFile}

-- both are absent, or these bytes spell this text
abbrev pub SpellsOptional : (List ℕ → List ℕ → Type 0) → Option (List ℕ) → Option (List ℕ) → Type 0
SpellsOptional Spells None None = ⊤
SpellsOptional Spells (Some raw) (Some text) = Spells raw text
SpellsOptional Spells (Some raw) None = ⊥
SpellsOptional Spells None (Some text) = ⊥

-- the section has this name, and its subsection spells this text, or both subsections are absent
abbrev pub SpellsSection : Section → List ℕ → Option (List ℕ) → Type 0
SpellsSection section name subsection =
    (section.0 ≡ name) × SpellsOptional SpellsSubsection section.1 subsection

-- these bytes are a header of this name and this subsection, whatever follows them
abbrev pub IsHeader : List ℕ → List ℕ → Option (List ℕ) → Type 0
IsHeader bytes name subsection =
    (inner : List ℕ) × (section : Section) × (bytes ≡ left_bracket ∷ inner) × SpellsSection section name subsection
    × ((rest : List ℕ) → Header (inner ++ rest) section rest)

-- how a byte of a subsection is spelled
abbrev pub spelled_in_subsection : ℕ → List ℕ
spelled_in_subsection b = if b == double_quote || b == backslash then backslash ∷ b ∷ [] else b ∷ []

abbrev pub spelled_subsection : List ℕ → List ℕ
spelled_subsection text = flat_map spelled_in_subsection text

-- the header of this name and this subsection that Git writes, without its `[`
abbrev pub spelled_section : List ℕ → Option (List ℕ) → List ℕ
spelled_section name None = name ++ right_bracket ∷ []
spelled_section name (Some text) =
    name ++ (space ∷ double_quote ∷ (spelled_subsection text ++ double_quote ∷ right_bracket ∷ []))

-- these bytes are the header of this name and this subsection that Git writes
abbrev pub IsGitHeader : List ℕ → List ℕ → Option (List ℕ) → Type 0
IsGitHeader bytes name subsection =
    IsHeader bytes name subsection × (bytes ≡ left_bracket ∷ spelled_section name subsection)

-- no header has this name and this subsection
abbrev pub HasNoHeader : List ℕ → Option (List ℕ) → Type 0
HasNoHeader name subsection =
    (text rest : List ℕ) (section : Section) → SpellsSection section name subsection → ¬ (Header text section rest)

-- no entry has this key: no text that begins with a letter has it as its first run of letters, digits and `-`
abbrev pub IsNoKey : List ℕ → Type 0
IsNoKey key =
    (b : ℕ) (text rest : List ℕ) → is_ascii_alphabetic b ≡ true → ¬ (Run is_key_byte (b ∷ text) key rest)

-- these bytes spell this value, today and before Git 2.45, and end outside quotes
abbrev pub IsSpelling : List ℕ → List ℕ → Type 0
IsSpelling raw value = SpellsValue raw value outside × Spells as_space false [] [] raw value outside

-- the letter that spells this byte of a value after a backslash, if the byte needs a backslash
abbrev pub letter_of : ℕ → Option ℕ
letter_of b =
    if b == line_feed then Some 110
    else if b == double_quote || b == backslash then Some b
    else if b == tab then Some 116
    else None

abbrev pub after_backslash : ℕ → Option ℕ → List ℕ
after_backslash b None = b ∷ []
after_backslash b (Some letter) = backslash ∷ letter ∷ []

-- how a byte of a value is spelled
abbrev pub spelled_byte : ℕ → List ℕ
spelled_byte b = after_backslash b (letter_of b)

-- whether this byte of a value needs quotes: a CR or a comment sign
abbrev pub is_lost : ℕ → Bool
is_lost b = b == carriage_return || is_comment_sign b

abbrev pub begins_with_space : List ℕ → Bool
begins_with_space [] = false
begins_with_space (b ∷ rest) = b == space

abbrev pub ends_with_space : List ℕ → Bool
ends_with_space [] = false
ends_with_space (b ∷ []) = b == space
ends_with_space (b ∷ c ∷ rest) = ends_with_space (c ∷ rest)

-- whether a value needs quotes
abbrev pub needs_quotes : List ℕ → Bool
needs_quotes value = begins_with_space value || ends_with_space value || list_any is_lost value

-- the spelling of a value that Git writes
abbrev pub git_spelled : List ℕ → List ℕ
git_spelled value =
    if needs_quotes value then double_quote ∷ (flat_map spelled_byte value ++ double_quote ∷ [])
    else flat_map spelled_byte value

-- these bytes are the spelling of this value that Git writes
abbrev pub IsGitSpelling : List ℕ → List ℕ → Type 0
IsGitSpelling raw value = IsSpelling raw value × (raw ≡ git_spelled value)

-- no bytes spell this value
abbrev pub HasNoSpelling : List ℕ → Type 0
HasNoSpelling value = (raw : List ℕ) → ¬ (SpellsValue raw value outside)

-- there is a value, and no bytes spell it
abbrev pub LacksSpelling : Option (List ℕ) → Type 0
LacksSpelling None = ⊥
LacksSpelling (Some value) = HasNoSpelling value

-- whether a line is continued: it ends in a backslash that is not escaped, or in such a backslash and a CR
abbrev pub is_continued : List ℕ → Bool
is_continued [] = false
is_continued (a ∷ []) = a == backslash
is_continued (a ∷ b ∷ []) = if a == backslash then b == carriage_return else b == backslash
is_continued (a ∷ b ∷ c ∷ line) =
    if a == backslash then is_continued (c ∷ line) else is_continued (b ∷ c ∷ line)

-- the text ends in LF, and its last line is not continued over that LF
pub record HasLineEnd (text : List ℕ) : Type 0 where
  pub line : List ℕ
  pub joined : text ≡ line ++ line_feed ∷ []
  pub not_continued : is_continued line ≡ false

-- a line can be appended to the text: it is empty, or its last line has a line end
abbrev pub EndsLine : List ℕ → Type 0
EndsLine text = (text ≡ []) ⊎ HasLineEnd text

-- the entry has these parts, and this line
pub record IsEntry
    (name : List ℕ) (subsection : Option (List ℕ)) (key : List ℕ) (value : Option (List ℕ)) (line : ℕ) (entry : Entry)
    : Type 0 where
  pub section : (section : Section) × (entry.section ≡ Some section) × SpellsSection section name subsection
  pub same_key : entry.key ≡ key
  pub spells : SpellsOptional IsSpelling entry.value value
  pub same_line : entry.line ≡ line

-- If a line can be appended to a configuration file, these bytes add one entry to it, which has these parts
-- and is on the next line. After that, a line can be appended again.
abbrev pub AddsEntry : List ℕ → List ℕ → Option (List ℕ) → List ℕ → Option (List ℕ) → Type 0
AddsEntry bytes name subsection key value =
    (text : List ℕ) (entries : List Entry) → IsFile text entries None → EndsLine text
    → (entry : Entry) × IsEntry name subsection key value (1 + line_feeds text) entry
    × IsFile (text ++ bytes) (entries ++ entry ∷ []) None × EndsLine (text ++ bytes)

-- these bytes are the header, the key, `=` and the spelling of the value if any, as Git writes them, and LF
abbrev pub IsLine : List ℕ → List ℕ → Option (List ℕ) → List ℕ → Option (List ℕ) → Type 0
IsLine bytes name subsection key None =
    (header : List ℕ) × IsGitHeader header name subsection × (bytes ≡ header ++ (key ++ line_feed ∷ []))
IsLine bytes name subsection key (Some value) =
    (header raw : List ℕ) × IsGitHeader header name subsection × IsGitSpelling raw value
    × (bytes ≡ header ++ (key ++ equals_sign ∷ (raw ++ line_feed ∷ [])))
