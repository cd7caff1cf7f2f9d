-- A search that C holds.
use Rattle.std.specs.Prelude.{◌≡◌, ℕ, List, [], ◌∷◌, ◌++◌, Option, None, Some, option_map}
use base.Fml.{Fml, ftrue}
use denote.RattleType.{RattleType}
use denote.RawPtr.{Ptr}
use denote.Signature.{static_lft}
use Rattle.std.specs.Box.Ownership.{box_owns}
use Rattle.std.specs.declared.alloc.Global.{Global}
use Rattle.std.specs.contracts.impls.GlobalAllocator.TheImpl.{ghosts}
use Rattle.config_search.specs.Stages.{Told}
use Rattle.config_search.specs.contracts.stages.Search.{the_row}
use Rattle.config_search.specs.declared.fact.Fact.{Fact}
use Rattle.gix_config_value_c.specs.declared.status.Status.TheVariants as statuses
use Rattle.gix_config_value_c.specs.Numbers.{status_number}

-- a search whose texts stay as they are for as long as C holds it
abbrev pub Row : RattleType
Row = the_row static_lft

-- the heap of malloc, of which there is one
abbrev pub heap : Global
heap = record { memory = record { seal = tt } }

-- nothing; or what the search at this place owns, and the right to free its memory
abbrev pub Holds : Ptr → Option Told → Fml
Holds memory None = ftrue
Holds memory (Some told) = box_owns (ghosts.dealloc_token heap) Row memory told

-- what was told, and then this fact
abbrev pub with_fact : Fact → Told → Told
with_fact fact told = record { folder = told.folder; facts = told.facts ++ fact ∷ [] }

-- if it begins, C holds a search in the folder, which is told nothing
abbrev pub Begins : List ℕ → Option Told → ℕ → Type 0
Begins folder new status = status ≡ status_number statuses.Ok → new ≡ Some (record { folder = folder; facts = [] })

-- where memory is refused, C holds what it held
abbrev pub Refuses : Option Told → Option Told → ℕ → Type 0
Refuses old new status = status ≡ status_number statuses.NoMemory → new ≡ old

-- if it is told, the search has the fact
abbrev pub Tells : Fact → Option Told → Option Told → ℕ → Type 0
Tells fact old new status = status ≡ status_number statuses.Ok → new ≡ option_map (with_fact fact) old
