-- Booleans: words in any case, and numbers.
use Rattle.std.specs.Prelude.{◌≡◌, ◌≢◌, ◌↔◌, ◌⊎◌, ℕ, pos, List, [], codes, true, false, if◌then◌else◌, IsTrue}
use Rattle.config_boolean.specs.declared.boolean.Boolean.{Boolean}
use Rattle.config_text.specs.SameWord.{SameWord}
use Rattle.config_integer.specs.declared.amount.Amount.{Amount}
use Rattle.config_integer.specs.Amount.{AmountText}

-- the words for true, ignoring ASCII case
abbrev pub Affirms : List ℕ → Type 0
Affirms t = SameWord t (codes "yes") ⊎ SameWord t (codes "on") ⊎ SameWord t (codes "true")

-- the empty text, or a word for false, ignoring ASCII case
abbrev pub Denies : List ℕ → Type 0
Denies t = (t ≡ []) ⊎ SameWord t (codes "no") ⊎ SameWord t (codes "off") ⊎ SameWord t (codes "false")

-- boolean text: a word, the empty text, or an amount text, which is true exactly if its number is not zero
pub data BooleanText (t : List ℕ) (v : Boolean) : Type 0 where
  affirmed : Affirms t → v.0 ≡ true → BooleanText t v
  denied : Denies t → v.0 ≡ false → BooleanText t v
  counted : (n : Amount) → AmountText t n → (IsTrue v.0 ↔ (n.0 ≢ pos 0)) → BooleanText t v

-- how a boolean is shown
abbrev pub boolean_shown : Boolean → List ℕ
boolean_shown v = if v.0 then codes "true" else codes "false"

-- the canonical texts of booleans
abbrev pub CanonicalBoolean : List ℕ → Type 0
CanonicalBoolean t = (t ≡ codes "true") ⊎ (t ≡ codes "false")
