-- The keys of settings: their parts, how Git reads and lists them, and the entries that have them.
--
-- Look for (here and in KeyView): `IsCut` cuts at the first and at the last dot. `IsWrong`: a missing
-- section comes first, then a missing name, then bytes from left to right. `HasKey`: Git lists the section
-- of the entry as the `stem` and a dot, so `[a.b]` has the keys of `[a "b"]`.
use Rattle.std.specs.Prelude.{◌≡◌, ◌≢◌, ℕ, Bool, true, false, not, ◌==◌, ◌&&◌, ◌||◌, List, [], ◌∷◌, ◌++◌}
use Rattle.std.specs.Prelude.{Option, Some, None, length, map, is_some, codes, encode_utf8_all}
use Rattle.std.specs.Char.{to_ascii_lowercase, is_ascii_alphabetic}
use Rattle.std.specs.List.{list_all, list_any}
use Rattle.bstr.specs.Utf8.{lossy_chars}
use Rattle.config_file.specs.declared.key.KeyError.{KeyError}
use Rattle.config_file.specs.declared.key.KeyError.TheVariants.{NoSection, NoName, BadByte, LineFeed}
use Rattle.config_file.specs.Bytes.{dot, line_feed, is_key_byte}
use Rattle.config_file.specs.Header.{Section}
use Rattle.config_file.specs.File.{Entry}
use Rattle.config_file.specs.Listing.{IsListedSection}

-- why a key is refused, in words
abbrev pub key_error_text : KeyError → List ℕ
key_error_text NoSection = codes "key does not contain a section"
key_error_text NoName = codes "key does not contain a variable name"
key_error_text BadByte = codes "invalid key"
key_error_text LineFeed = codes "invalid key (newline)"

abbrev pub is_no_dot : ℕ → Bool
is_no_dot b = not (b == dot)

-- the parts of a key: its section, its subsection, if it has one, and its name
pub record Key : Type 0 where
  pub section : List ℕ
  pub subsection : Option (List ℕ)
  pub name : List ℕ

abbrev pub key : List ℕ → Option (List ℕ) → List ℕ → Key
key section subsection name = record { section = section; subsection = subsection; name = name }

-- a dot and the subsection, if there is one
abbrev pub dotted : Option (List ℕ) → List ℕ
dotted None = []
dotted (Some subsection) = dot ∷ subsection

-- a key as it is written
abbrev pub written : Key → List ℕ
written k = (k.section ++ dotted k.subsection) ++ dot ∷ k.name

-- what Git lists before the last dot of a key: the section in lower case, and the subsection as it is
abbrev pub stem : Key → List ℕ
stem k = map to_ascii_lowercase k.section ++ dotted k.subsection

-- a key as Git lists it
abbrev pub listed : Key → List ℕ
listed k = stem k ++ dot ∷ map to_ascii_lowercase k.name

-- a text in lower case, and a text as it is, with U+FFFD for bytes that are not UTF-8
abbrev pub lower_shown : List ℕ → List ℕ
lower_shown text = encode_utf8_all (map to_ascii_lowercase (lossy_chars text))

-- a dot and the subsection, if there is one
abbrev pub subsection_shown : Option (List ℕ) → List ℕ
subsection_shown None = []
subsection_shown (Some subsection) = codes "." ++ encode_utf8_all (lossy_chars subsection)

-- how a key is shown: as Git lists it
abbrev pub key_shown : Key → List ℕ
key_shown k = lower_shown k.section ++ subsection_shown k.subsection ++ codes "." ++ lower_shown k.name

-- the entry has this key: their names are equal, ignoring ASCII case, and Git lists the section of the entry
-- as the stem of the key and a dot
pub record HasKey (entry : Entry) (k : Key) : Type 0 where
  pub section : Section
  pub in_section : entry.section ≡ Some section
  pub stem_listed : IsListedSection section (stem k ++ dot ∷ [])
  pub same_name : map to_ascii_lowercase entry.key ≡ map to_ascii_lowercase k.name

-- the text is cut into these parts, at its first dot and at its last dot
pub record IsCut (text : List ℕ) (k : Key) : Type 0 where
  pub joined : text ≡ written k
  pub section : list_all is_no_dot k.section ≡ true
  pub name : list_all is_no_dot k.name ≡ true

-- whether something precedes the last dot
abbrev pub has_section : Key → Bool
has_section k = is_some k.subsection || not (length k.section == 0)

-- whether all bytes of the section are allowed there
abbrev pub is_section : List ℕ → Bool
is_section section = list_all is_key_byte section

-- whether the subsection, if there is one, is on one line
abbrev pub is_one_line : Option (List ℕ) → Bool
is_one_line None = true
is_one_line (Some subsection) = not (list_any (λ b. b == line_feed) subsection)

-- whether the name is a letter, followed by bytes of keys
abbrev pub is_name : List ℕ → Bool
is_name [] = false
is_name (b ∷ name) = is_ascii_alphabetic b && list_all is_key_byte name

-- the parts are those of a key that Git accepts
pub record IsAccepted (k : Key) : Type 0 where
  pub some_section : has_section k ≡ true
  pub section : is_section k.section ≡ true
  pub subsection : is_one_line k.subsection ≡ true
  pub name : is_name k.name ≡ true

-- The parts are not those of a key, and this is what Git reports. It looks first whether there is a section
-- and a name, and then at the bytes from left to right.
pub data IsWrong : Key → KeyError → Type 0 where
  no_section : {k : Key} → has_section k ≡ false → IsWrong k NoSection
  no_name : {k : Key} → has_section k ≡ true → k.name ≡ [] → IsWrong k NoName
  bad_section : {k : Key}
      → has_section k ≡ true → k.name ≢ [] → is_section k.section ≡ false
      → IsWrong k BadByte
  many_lines : {k : Key}
      → has_section k ≡ true → k.name ≢ [] → is_section k.section ≡ true → is_one_line k.subsection ≡ false
      → IsWrong k LineFeed
  bad_name : {k : Key}
      → has_section k ≡ true → k.name ≢ [] → is_section k.section ≡ true → is_one_line k.subsection ≡ true
      → is_name k.name ≡ false
      → IsWrong k BadByte

-- the text is a key with these parts
pub record IsKey (text : List ℕ) (k : Key) : Type 0 where
  pub cut : IsCut text k
  pub accepted : IsAccepted k

-- the text is not a key: it has no dot, or its parts are not those of a key
pub data RefusesKey : List ℕ → KeyError → Type 0 where
  no_dot : {text : List ℕ} → list_all is_no_dot text ≡ true → RefusesKey text NoSection
  wrong : {text : List ℕ} {k : Key} {error : KeyError}
      → IsCut text k → IsWrong k error
      → RefusesKey text error
