-- The value of an entry: the bytes from its `=` to the end of the line or to a comment.
--
-- Look for: three letters are escapes. `kept`: blanks count only between bytes of the value. `ends_inside`:
-- `TakesValue` takes no value that ends there.
use Rattle.std.specs.Prelude.{◌≡◌, ◌≢◌, ℕ, ◌+◌, Bool, true, false, not, if◌then◌else◌, ◌||◌, ◌==◌, List, []}
use Rattle.std.specs.Prelude.{◌∷◌, ◌++◌, Option, Some, None, ⊤, ◌⊎◌, count_by}
use Rattle.config_file.specs.declared.errors.Why.{Why}
use Rattle.config_file.specs.declared.errors.Why.TheVariants.{BadLine, Nul}
use Rattle.config_file.specs.Header.{why_at}
use Rattle.config_file.specs.Bytes.{backspace, tab, line_feed, carriage_return, space, double_quote}
use Rattle.config_file.specs.Bytes.{backslash, is_blank, is_plain, is_comment_sign, EndsText}

-- the byte that a backslash and this byte spell, if they spell one
abbrev pub escape : ℕ → Option ℕ
escape e =
    if e == 110 then Some line_feed
    else if e == 116 then Some tab
    else if e == 98 then Some backspace
    else if e == double_quote || e == backslash then Some e
    else None

-- the value so far and the blanks that were held back, which are dropped if the value has no byte yet
abbrev pub kept : List ℕ → List ℕ → List ℕ
kept [] held = []
kept (b ∷ value) held = (b ∷ value) ++ held

-- where the bytes of a value end: outside quotes, inside them, or at a backslash that ends the file
pub data Ending : Type 0 where
  outside : Ending
  inside : Ending
  at_backslash : Ending

-- After this value so far and these held blanks, in quotes or not, these bytes complete it to this text, and
-- have this ending. A blank outside quotes is held back, and counts as what it is read as only if a byte of
-- the value follows.
pub data Spells (read_as : ℕ → ℕ) : Bool → List ℕ → List ℕ → List ℕ → List ℕ → Ending → Type 0 where
  ends_outside : {value held : List ℕ} → Spells read_as false value held [] value outside
  ends_inside : {value held : List ℕ} → Spells read_as true value held [] value inside
  ends_at_backslash : {b : ℕ} {value held : List ℕ}
      → b ≡ backslash
      → Spells read_as false value held (b ∷ []) (kept value held) at_backslash
  quote : {quoted : Bool} {b : ℕ} {value held raw text : List ℕ} {ending : Ending}
      → b ≡ double_quote → Spells read_as (not quoted) (kept value held) [] raw text ending
      → Spells read_as quoted value held (b ∷ raw) text ending
  escaped : {quoted : Bool} {b e c : ℕ} {value held raw text : List ℕ} {ending : Ending}
      → b ≡ backslash → escape e ≡ Some c
      → Spells read_as quoted (kept value held ++ c ∷ []) [] raw text ending
      → Spells read_as quoted value held (b ∷ e ∷ raw) text ending
  continued : {quoted : Bool} {b e : ℕ} {value held raw text : List ℕ} {ending : Ending}
      → b ≡ backslash → e ≡ line_feed → Spells read_as quoted (kept value held) [] raw text ending
      → Spells read_as quoted value held (b ∷ e ∷ raw) text ending
  continued_after_return : {quoted : Bool} {b e f : ℕ} {value held raw text : List ℕ} {ending : Ending}
      → b ≡ backslash → e ≡ carriage_return → f ≡ line_feed
      → Spells read_as quoted (kept value held) [] raw text ending
      → Spells read_as quoted value held (b ∷ e ∷ f ∷ raw) text ending
  blank : {b : ℕ} {value held raw text : List ℕ} {ending : Ending}
      → is_blank b ≡ true → Spells read_as false value (held ++ read_as b ∷ []) raw text ending
      → Spells read_as false value held (b ∷ raw) text ending
  plain : {quoted : Bool} {b : ℕ} {value held raw text : List ℕ} {ending : Ending}
      → is_plain quoted b ≡ true → Spells read_as quoted (kept value held ++ b ∷ []) [] raw text ending
      → Spells read_as quoted value held (b ∷ raw) text ending

-- since Git 2.45 a blank between bytes of a value is itself
abbrev pub itself : ℕ → ℕ
itself b = b

-- before Git 2.45 it was a space
abbrev pub as_space : ℕ → ℕ
as_space b = space

-- these bytes spell this value, and have this ending
abbrev pub SpellsValue : List ℕ → List ℕ → Ending → Type 0
SpellsValue raw text ending = Spells itself false [] [] raw text ending

-- these bytes begin a value that can go on after them, in quotes or not
abbrev pub IsPart : Bool → List ℕ → Type 0
IsPart true raw = (text : List ℕ) × SpellsValue raw text inside
IsPart false raw = (text : List ℕ) × SpellsValue raw text outside

-- the rest is empty, or begins with LF or a comment sign
abbrev pub EndsValue : List ℕ → Type 0
EndsValue [] = ⊤
EndsValue (b ∷ rest) = (b ≡ line_feed) ⊎ (is_comment_sign b ≡ true)

-- how many LFs a text has
abbrev pub line_feeds : List ℕ → ℕ
line_feeds text = count_by (λ b. b == line_feed) text

-- after the `=`, the text has this value, which continues over this many line ends, and then this rest
pub data TakesValue : List ℕ → List ℕ → ℕ → List ℕ → Type 0 where
  closed : {raw value text rest : List ℕ}
      → text ≡ raw ++ rest → SpellsValue raw value outside → EndsValue rest
      → TakesValue text raw (line_feeds raw) rest
  open_end : {raw value : List ℕ}
      → SpellsValue raw value at_backslash
      → TakesValue raw raw (line_feeds raw + 1) []

-- the rest begins with a byte that cannot follow a backslash: no escape and no line end
abbrev pub IsNoEscape : List ℕ → Type 0
IsNoEscape [] = ⊥
IsNoEscape (e ∷ []) = (escape e ≡ None) × (e ≢ line_feed)
IsNoEscape (e ∷ f ∷ rest) = (escape e ≡ None) × (e ≢ line_feed) × (e ≡ carriage_return → f ≢ line_feed)

-- a value that is refused: how many lines after its first one the error is, and why
pub data ValueStops : List ℕ → ℕ → Why → Type 0 where
  nul : {b : ℕ} {text : List ℕ} (raw rest : List ℕ)
      → text ≡ raw ++ b ∷ rest → IsPart false raw → b ≡ 0
      → ValueStops text (line_feeds raw) Nul
  unclosed : {text : List ℕ} (raw rest : List ℕ)
      → text ≡ raw ++ rest → IsPart true raw → EndsText rest
      → ValueStops text (line_feeds raw) (why_at rest)
  unclosed_open_end : {b : ℕ} {text : List ℕ} (raw : List ℕ)
      → text ≡ raw ++ b ∷ [] → IsPart true raw → b ≡ backslash
      → ValueStops text (line_feeds raw + 1) BadLine
  no_escape : {b : ℕ} {text : List ℕ} (quoted : Bool) (raw rest : List ℕ)
      → text ≡ raw ++ b ∷ rest → IsPart quoted raw → b ≡ backslash → IsNoEscape rest
      → ValueStops text (line_feeds raw) (why_at rest)
