-- What has a spelling, and the line of an entry.
use Rattle.std.specs.Prelude.{ℕ, Bool, true, false, not, ◌&&◌, ◌==◌, length, List, [], ◌∷◌, ◌++◌, Option}
use Rattle.std.specs.Prelude.{Some, None}
use Rattle.std.specs.Char.{is_ascii_alphabetic}
use Rattle.std.specs.List.{list_all}
use Rattle.config_file.specs.Bytes.{line_feed, equals_sign, is_key_byte, is_name_byte, is_text_byte}
use Rattle.config_file.specs.Spelling.{git_spelled}

-- whether a value has a spelling: it has no NUL
abbrev pub is_spellable : List ℕ → Bool
is_spellable value = list_all (λ b. not (b == 0)) value

abbrev pub is_spellable_or_absent : Option (List ℕ) → Bool
is_spellable_or_absent None = true
is_spellable_or_absent (Some value) = is_spellable value

-- whether a header can have this name and this subsection
abbrev pub is_section : List ℕ → Option (List ℕ) → Bool
is_section name None = not (length name == 0) && list_all is_name_byte name
is_section name (Some text) = list_all is_name_byte name && list_all is_text_byte text

-- whether an entry can have this key
abbrev pub is_key : List ℕ → Bool
is_key [] = false
is_key (b ∷ rest) = is_ascii_alphabetic b && list_all is_key_byte (b ∷ rest)

-- whether an entry can have these parts
abbrev pub is_writable : List ℕ → Option (List ℕ) → List ℕ → Option (List ℕ) → Bool
is_writable name text key value = is_section name text && is_key key && is_spellable_or_absent value

abbrev pub spelled_line : List ℕ → Option (List ℕ) → List ℕ
spelled_line key None = key ++ line_feed ∷ []
spelled_line key (Some value) = key ++ (equals_sign ∷ (git_spelled value ++ line_feed ∷ []))
