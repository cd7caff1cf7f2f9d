-- An entry whose key is asked for.
use Rattle.std.proofs.Common.{◌≡◌, ℕ, List, inl, inr, Some, None}
use Rattle.std.specs.Prelude.{Ok, Err, OnOk, Result}
use Rattle.config_file.specs.File.{Entry}
use Rattle.config_file.specs.Listing.{IsListed}
use Rattle.config_file.specs.declared.settings.Setting.{Setting}
use Rattle.config_file.specs.declared.scope.Scope.{Scope}
use Rattle.config_answers.specs.Choices.{Choice, FitsKey}
use Rattle.config_answers.specs.Given.{Gives, GivesValue}

pub given_ok : {R E : Type 0} (receives : R → Setting → R → Type 0) (choice now : Choice) (scope : Scope)
    (found : List ℕ × Entry) (old new : R) (result : Result (Unit {0}) E) → now ≡ choice
    → ((listed : List ℕ) → IsListed found.1.section found.1.key listed → FitsKey choice.keys found.1 listed)
    → OnOk result (GivesValue receives now scope found old new) → OnOk result (Gives receives choice scope found old new)
given_ok receives choice now scope found old new (Err e) same fits is = tt
given_ok receives choice now scope found old new (Ok u) same fits is = λ listed lists.
    let (setting, of, at, either) = rw same at is in
    elim either [
      | inl both ↦ (Some setting, (of, at, fits listed lists, both.0), both.1)
      | inr both ↦ (None, inr (setting, of, both.0), both.1)
    ]
