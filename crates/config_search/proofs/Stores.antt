-- How references are stored, where settings or a variable may say it.
use Rattle.std.proofs.Common.{◌≡◌, ℕ, Bor, List, Option, None, Some, IfSome, option_copied, sym}
use Rattle.std.specs.Prelude.{unwrap_or}
use Rattle.config_search.specs.System.{System, AreTrueIn}
use Rattle.config_search.specs.Questions.{MayName, by_settings}
use Rattle.config_search.specs.Shown.{IsStore}
use Rattle.config_search.specs.declared.TheConstants.{SETTINGS}
use Rattle.config_search.specs.declared.fact.Fact.{Fact}
use Rattle.config_search.specs.declared.format.Store.{Store}

pub if_some : {A : Type 0} {P : Type 0} (it : Option A) → P → IfSome it (λ a. P)
if_some None holds = tt
if_some (Some a) holds = holds

pub any_store : (facts : List Fact) (store : Store) → ((system : System) → AreTrueIn system facts → MayName system)
    → IsStore facts store
any_store facts store named = if_some store.place named

pub any_given : (facts : List Fact) (store : Option Store) → ((system : System) → AreTrueIn system facts → MayName system)
    → IfSome store (IsStore facts)
any_given facts None named = tt
any_given facts (Some store) named = any_store facts store named

pub either_store : (facts : List Fact) (given : Option Store) (own : Store) → IfSome given (IsStore facts)
    → IsStore facts own → IsStore facts (unwrap_or given own)
either_store facts None own given is = is
either_store facts (Some store) own given is = given

-- a file of settings that is read may name a place
pub if_read : (system : System) (name : List ℕ) (text : Option (Bor (List ℕ))) → option_copied text ≡ system SETTINGS name
    → IfSome text (λ t. MayName system)
if_read system name None is = tt
if_read system name (Some text) is = by_settings (sym is)
