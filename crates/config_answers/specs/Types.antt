-- What is shown for a value: the text as it is written, or the text of a type.
--
-- Look for: a number comes before a truth value, and a truth value before a text; `Missing` only for an
-- optional path that is not there; a key alone is `true`, but as a path empty.
use Rattle.std.specs.Prelude.{◌≡◌, ◌⊎◌, ℕ, Bool, true, false, List, [], codes, decimal, Option, Some, None}
use Rattle.std.specs.Prelude.{option_map, option_copied, unwrap_or}
use Rattle.gix_config_value.specs.Kinds.{KindGrammar, KindCanonical}
use Rattle.gix_config_value.specs.declared.kind.Kind.{Kind}
use Rattle.gix_config_value.specs.declared.kind.Kind.TheVariants as kinds
use Rattle.config_text.specs.Value.{IsAccepted, IsRefused, Normalizes}
use Rattle.config_integer.specs.Amount.{AmountText}
use Rattle.config_boolean.specs.Boolean.{BooleanText}
use Rattle.config_color.specs.Color.{ColorText}
use Rattle.config_color.specs.Depth.{ReducedColor}
use Rattle.config_color.specs.Escape.{escape_sequence}
use Rattle.config_color.specs.declared.color.Color as color
use Rattle.config_color.specs.declared.depth.Depth.{Depth}
use Rattle.config_path.specs.Interpolation.{Known, PathResult, PathTable, known_by}
use Rattle.config_path.specs.Interpolation.PathResult.{text}
use Rattle.config_path.specs.Passwd.{IsHomeIn}
use Rattle.config_path.specs.Path.{Marked}
use Rattle.config_answers.specs.declared.typed.Homes.{Homes}
use Rattle.config_answers.specs.declared.typed.Outcome.{Outcome}
use Rattle.config_answers.specs.declared.typed.Outcome.TheVariants.{AsWritten, Typed, Alone, Missing, Refused}
use Rattle.config_answers.specs.declared.typed.Shown.{Shown}
use Rattle.config_answers.specs.declared.typed.Shown.TheVariants as shown

-- the text that a reader gets: that of the value, or `true` for a key alone
abbrev pub read_text : Option (List ℕ) → List ℕ
read_text value = unwrap_or value (codes "true")

-- the text that a type gives, or a refusal if it gives none
abbrev pub OfType : (Option (List ℕ) → Type 0) → Outcome → List ℕ → Type 0
OfType Gives Typed typed = Gives (Some typed)
OfType Gives Refused typed = Gives None
OfType Gives _ typed = ⊥

-- the canonical text of a kind
abbrev pub IsCanonical : Kind → List ℕ → Outcome → List ℕ → Type 0
IsCanonical kind value = OfType (Normalizes (KindGrammar kind) (KindCanonical kind) value)

-- How a value is written into a file: as the canonical text of its type, of a number before a truth value, and of a
-- truth value before any text; a color, and what has no such text, as it is given.
abbrev pub Writes : Shown → List ℕ → Outcome → List ℕ → Type 0
Writes (shown.Canonical kind) value outcome typed = IsCanonical kind value outcome typed
Writes shown.BooleanOrAmount value outcome typed = (IsAccepted AmountText value × IsCanonical kinds.Amount value outcome typed)
    ⊎ (IsRefused AmountText value × IsCanonical kinds.Boolean value outcome typed)
Writes shown.BooleanOrText value outcome typed = (IsAccepted BooleanText value × IsCanonical kinds.Boolean value outcome typed)
    ⊎ (IsRefused BooleanText value × (outcome ≡ AsWritten))
Writes (shown.Escape depth) value outcome typed =
    (IsAccepted ColorText value × (outcome ≡ AsWritten)) ⊎ (IsRefused ColorText value × (outcome ≡ Refused))
Writes _ value outcome typed = outcome ≡ AsWritten

-- what is written for a color: nothing where no colors are, and otherwise the escape sequence of what a terminal of
-- this depth shows, which with all colors is the color itself
abbrev pub EscapeAt : Option Depth → color.Color → List ℕ → Type 0
EscapeAt None whole typed = typed ≡ []
EscapeAt (Some depth) whole typed = (less : color.Color) × ReducedColor depth whole less × (typed ≡ escape_sequence less)

-- what is written for the color that a text has, or none if it has no color
abbrev pub IsEscape : Option Depth → List ℕ → Option (List ℕ) → Type 0
IsEscape depth value None = IsRefused ColorText value
IsEscape depth value (Some typed) = (color : color.Color) × ColorText value color × EscapeAt depth color typed

-- the second that a date may have, in decimal
abbrev pub IsSecond : (List ℕ → Option ℕ → Type 0) → List ℕ → Option (List ℕ) → Type 0
IsSecond dates value typed = (second : Option ℕ) × dates value second × (typed ≡ option_map decimal second)

-- the directories that a path may begin with: the home directory, and those of the users of the list
abbrev pub known_of : Homes → Known
known_of homes = known_by (λ dir. dir.now) (λ passwd name home. IsHomeIn passwd.now name (option_copied home)) None
    homes.home (Some homes.passwd)

-- what becomes of a path: it is shown, but an optional one that is not there counts as not set
abbrev pub BecomesPath : (List ℕ → Bool → Type 0) → (is_optional : Bool) → PathResult → Outcome → List ℕ → Type 0
BecomesPath is_there is_optional (text path) outcome typed =
    ((outcome ≡ Typed) × (typed ≡ path) × (is_optional ≡ true → is_there path true))
    ⊎ ((outcome ≡ Missing) × (is_optional ≡ true) × is_there path false)
BecomesPath is_there is_optional _ outcome typed = outcome ≡ Refused

-- what becomes of the path that a text means, by the table of paths
abbrev pub ShowsPath : (List ℕ → Bool → Type 0) → Known → List ℕ → Outcome → List ℕ → Type 0
ShowsPath is_there known value outcome typed = (is_optional : Bool) × (path : List ℕ) × (result : PathResult)
    × Marked value is_optional path × PathTable known path result × BecomesPath is_there is_optional result outcome typed

-- What is shown for a value, which is `None` for a key alone. The system says which second a date may have, and which
-- paths are there.
abbrev pub Shows : (dates : List ℕ → Option ℕ → Type 0) → (is_there : List ℕ → Bool → Type 0) → Homes → Shown
    → Option (List ℕ) → Outcome → List ℕ → Type 0
Shows dates is_there homes shown.Text None outcome typed = outcome ≡ Alone
Shows dates is_there homes shown.Text (Some value) outcome typed = outcome ≡ AsWritten
Shows dates is_there homes shown.Path value outcome typed =
    ShowsPath is_there (known_of homes) (unwrap_or value []) outcome typed
Shows dates is_there homes shown.Date value outcome typed = OfType (IsSecond dates (read_text value)) outcome typed
Shows dates is_there homes (shown.Escape depth) value outcome typed =
    OfType (IsEscape depth (read_text value)) outcome typed
Shows dates is_there homes shown value outcome typed = Writes shown (read_text value) outcome typed
