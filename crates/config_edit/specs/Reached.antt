-- How far the reading of a configuration file has come.
use Rattle.std.specs.Prelude.{◌≡◌, ℕ, ◌+◌, true, List, [], ◌∷◌, Option, Some}
use Rattle.std.specs.Char.{is_ascii_alphabetic}
use Rattle.config_file.specs.Bytes.{line_feed, left_bracket, is_blank, is_comment_sign, is_comment_byte}
use Rattle.config_file.specs.Runs.{Run}
use Rattle.config_file.specs.Header.{Section, Header}
use Rattle.config_file.specs.File.{Entry, entry_at, TakesEntry}

-- read in this section and from this line on, the text has these entries, and then the reading is in this next
-- section, on this line, before this rest
pub data Leads : Option Section → ℕ → List ℕ → List Entry → Option Section → ℕ → List ℕ → Type 0 where
  here : {section : Option Section} {line : ℕ} {text : List ℕ} → Leads section line text [] section line text
  blank : {section next : Option Section} {line end b : ℕ} {text rest : List ℕ} {entries : List Entry}
      → is_blank b ≡ true → Leads section line text entries next end rest
      → Leads section line (b ∷ text) entries next end rest
  line_end : {section next : Option Section} {line end b : ℕ} {text rest : List ℕ} {entries : List Entry}
      → b ≡ line_feed → Leads section (line + 1) text entries next end rest
      → Leads section line (b ∷ text) entries next end rest
  comment : {section next : Option Section} {line end b : ℕ} {text comment after rest : List ℕ}
      {entries : List Entry}
      → is_comment_sign b ≡ true → Run is_comment_byte text comment after
      → Leads section line after entries next end rest
      → Leads section line (b ∷ text) entries next end rest
  header : {section next : Option Section} {new : Section} {line end b : ℕ} {text after rest : List ℕ}
      {entries : List Entry}
      → b ≡ left_bracket → Header text new after → Leads (Some new) line after entries next end rest
      → Leads section line (b ∷ text) entries next end rest
  entry : {section next : Option Section} {line lines end b : ℕ} {text key after rest : List ℕ}
      {value : Option (List ℕ)} {entries : List Entry}
      → is_ascii_alphabetic b ≡ true → TakesEntry (b ∷ text) key value lines after
      → Leads section (line + lines) after entries next end rest
      → Leads section line (b ∷ text) (entry_at section key value (line + lines) ∷ entries) next end rest
