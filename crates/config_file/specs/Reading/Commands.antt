-- What the pieces of the reader of parameters give.
use Rattle.std.specs.Prelude.{◌≡◌, ◌≢◌, ◌<◌, ◌≤◌, ℕ, Bool, true, false, List, [], ◌∷◌, ◌++◌, Option, Result}
use Rattle.std.specs.Prelude.{Ok, Err, length, option_map, ⊤}
use Rattle.std.specs.declared.vec.Vec.{Vec}
use Rattle.std.specs.declared.alloc.Global.{Global}
use Rattle.config_file.specs.declared.key.KeyError.{KeyError}
use Rattle.config_file.specs.declared.command.Parameter as code
use Rattle.config_file.specs.declared.command.Parameter.TheVariants as variant
use Rattle.config_file.specs.declared.command.Piece.{Piece}
use Rattle.config_file.specs.declared.command.Piece.TheVariants.{Byte, Close, End}
use Rattle.config_file.specs.declared.command.CommandError.{CommandError}
use Rattle.config_file.specs.declared.command.CommandError.TheVariants as error
use Rattle.config_file.specs.Bytes.{dash, backslash}
use Rattle.config_file.specs.Command.{Parameter, whole, pair, KeyValue, Quotes, Says, Accepts, AddsSettings}
use Rattle.config_file.specs.Command.{RefusesParameter, plus_sign, single_quote, goes_on}

-- nothing is taken here
abbrev pub Lacks : {A : Type 0} → (List ℕ → A → List ℕ → Type 0) → List ℕ → Type 0
Lacks {A = A} Takes text = (taken : A) (rest : List ℕ) → ¬ (Takes text taken rest)

-- the text of a value, if there is one
abbrev pub text_of : Option (Vec ℕ Global) → Option (List ℕ)
text_of value = option_map (λ v. v.items) value

-- a parameter of the code
abbrev pub parameter_of : code.Parameter → Parameter
parameter_of (variant.Whole text) = whole text.items
parameter_of (variant.Pair key value) = pair key.items (text_of value)

-- the text begins with a backslash, this `'` or `!` and a quote, and then has this rest
pub record GoesOn (text : List ℕ) (byte : ℕ) (rest : List ℕ) : Type 0 where
  pub joined : text ≡ backslash ∷ byte ∷ single_quote ∷ rest
  pub goes_on : goes_on text ≡ true

-- what a piece of a quoted text says of it
abbrev pub NextPiece : List ℕ → Piece → Type 0
NextPiece text (Byte b rest) = (length rest.now < length text)
    × ((quoted after : List ℕ) → Quotes rest.now quoted after → Quotes text (b ∷ quoted) after)
    × ((quoted after : List ℕ) → Quotes text quoted after → (more : List ℕ) × Quotes rest.now more after)
NextPiece text (Close rest) = Quotes text [] rest.now
NextPiece text End = text ≡ []

-- the line of a parameter is appended, or it is refused
abbrev pub PushesParameter : Parameter → List ℕ → List ℕ → Result (Unit {0}) CommandError → Type 0
PushesParameter parameter old new (Ok _) = (setting : KeyValue) × Says parameter setting × Accepts setting
    × ((line : List ℕ) × AddsSettings line (setting ∷ []) × (new ≡ old ++ line))
PushesParameter parameter old new (Err error) = RefusesParameter parameter error

-- the error shows this key, which is refused for this reason, or memory is refused
abbrev pub ShowsKey : List ℕ → KeyError → CommandError → Type 0
ShowsKey key reason (error.Key shown given) = (shown.items ≡ key) × (given ≡ reason)
ShowsKey key reason (error.Memory _) = ⊤
ShowsKey key reason _ = ⊥

-- a sign is cut off: a `-`, a `+`, or none, where the text begins with neither
pub data CutsSign : List ℕ → Bool → List ℕ → Type 0 where
  minus : {b : ℕ} {rest : List ℕ} → b ≡ dash → CutsSign (b ∷ rest) true rest
  after_plus : {b : ℕ} {rest : List ℕ} → b ≡ plus_sign → CutsSign (b ∷ rest) false rest
  empty : CutsSign [] false []
  no_sign : {b : ℕ} {rest : List ℕ} → b ≢ dash → b ≢ plus_sign → CutsSign (b ∷ rest) false (b ∷ rest)

-- a count is given if it is at most 2147483647
abbrev pub Limits : ℕ → Result ℕ CommandError → Type 0
Limits count (Ok given) = (given ≡ count) × (count ≤ 2147483647)
Limits count (Err error.TooMany) = 2147483647 < count
Limits count (Err _) = ⊥
