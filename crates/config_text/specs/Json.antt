-- JSON values: a truth value, a number, or a shown text as a string.
use Rattle.std.specs.Prelude.{◌≡◌, ◌≢◌, ℕ, ℤ, List, [], Result, Ok, Err}
use Rattle.serde_json.specs.Data.{Data, number, string}
use Rattle.serde_json.specs.Find.{of_integer}
use Rattle.serde_json.specs.View.{view}
use Rattle.serde_json.specs.declared.value.Value.{Value}
use Rattle.config_text.specs.declared.json.JsonError.{JsonError}
use Rattle.config_text.specs.declared.json.JsonError.TheVariants.{Overflow, Memory}
use Rattle.config_text.specs.Numerals.{IsInI64}

-- the result is a JSON value with this content, and never an error
abbrev pub IsJson : Data → Result Value JsonError → Type 0
IsJson json (Ok v) = view v ≡ json
IsJson json (Err e) = ⊥

-- the number, or `Overflow` if it is out of range
abbrev pub GivesJsonNumber : ℤ → Result Value JsonError → Type 0
GivesJsonNumber z (Ok v) = IsInI64 z × (view v ≡ number (of_integer z))
GivesJsonNumber z (Err e) = (¬ (IsInI64 z)) × (e ≡ Overflow)

-- the text as a string, or `Memory`, which is possible only if the text is not empty
abbrev pub GivesJsonText : List ℕ → Result Value JsonError → Type 0
GivesJsonText text (Ok v) = view v ≡ string text
GivesJsonText text (Err Overflow) = ⊥
GivesJsonText text (Err (Memory e)) = text ≢ []
