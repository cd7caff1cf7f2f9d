use Rattle.std.proofs.Common.{◌≡◌, ◌∙◌, List, ℕ, Bool, Some, MatchBool, true, false, sym, ap, refl}
use Rattle.std.proofs.lemmas.Bool.{true≢false}
use Rattle.config_boolean.specs.Boolean.{BooleanText}
use Rattle.config_boolean.specs.Laws.Boolean.{boolean_one_value}
use Rattle.config_boolean.specs.declared.boolean.Boolean.{Boolean}
use Rattle.config_search.specs.Search.{IsOnText}
use Rattle.config_search.proofs.seek.is_true.Goals as goal

-- a text that reads as false is not on
not_on : (text : List ℕ) (v : Boolean) → v.0 ≡ false → BooleanText text v → IsOnText (Some text) → ⊥
not_on text v is reads (w, other, on) =
    true≢false (sym on ∙ ap (λ (b : Boolean). b.0) (boolean_one_value text w v other reads) ∙ is)

-- a text is on exactly if the boolean that it reads as is true
by_value : (text : List ℕ) (v : Boolean) (b : Bool) → v.0 ≡ b → BooleanText text v
    → MatchBool b (IsOnText (Some text)) (¬ (IsOnText (Some text)))
by_value text v true is reads = (v, reads, is)
by_value text v false is reads = not_on text v is reads

-- a text that has no value is not on
none_on : (text : List ℕ) → ((v : Boolean) → BooleanText text v → ⊥) → IsOnText (Some text) → ⊥
none_on text none (w, other, on) = none w other

pub returns-in-Ok : goal.returns-in-Ok
returns-in-Ok c = rw c.in-Some.is (by_value c.in-Some.value.now c.in-Ok.boolean c.in-Ok.boolean.0 refl c.in-Ok.ensures)

pub returns-in-Err : goal.returns-in-Err
returns-in-Err c = rw c.in-Some.is (none_on c.in-Some.value.now c.in-Err.ensures.1)
