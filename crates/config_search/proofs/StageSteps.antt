-- What stages of a search rest on.
use Rattle.std.proofs.Common.{◌≡◌, ◌++◌, ◌∷◌, [], ℕ, List, Option, None, Some, IfSome, MatchResult, OnErr, OnOk, Result, Ok, Err, subst, sym, arith, length, take}
use Rattle.std.proofs.lemmas.List.Elements.{All-take}
use Rattle.std.proofs.lemmas.Grind.{common_steps}
use Rattle.std.specs.Global.{Vec}
use Rattle.config_search.specs.System.{System, AreTrueIn, IsTrueIn}
use Rattle.config_search.specs.Questions.{Comes, MayName, in_start}
use Rattle.config_search.specs.Search.{Sought, Seeks, OnlySeeks, path_of, start_of}
use Rattle.config_search.specs.Answers.{Answers, Does, Tells}
use Rattle.config_search.specs.Shown.{IsNew}
use Rattle.config_search.specs.Stages.{IsStart, IsSite, IsRight}
use Rattle.config_search.specs.declared.answer.Answer.{Answer}
use Rattle.config_file.specs.declared.errors.Stop.{Stop}
use Rattle.config_search.specs.declared.answer.Outcome.{Outcome}
use Rattle.config_search.specs.declared.answer.Outcome.TheVariants.{Stops}
use Rattle.config_search.specs.declared.fact.Fact.{Fact}
use Rattle.config_search.specs.declared.fact.Pause.{Pause}
use Rattle.config_search.specs.declared.place.Site.{Site}
use Rattle.config_search.specs.declared.seek.Folder.{Folder}
use Rattle.config_search.specs.declared.stages.Stage.{Stage}
use Rattle.config_search.proofs.OneAnswer.{seeks-one}

-- the folder in which Git starts is a place
pub start_comes : (system : System) (asked : List ℕ) (start : Folder) → IsStart system asked start → Comes system asked start.name.now
start_comes system asked start is = subst (λ (name : List ℕ). Comes system asked name) (sym is.0) in_start

-- what Git does with what it finds is what it does
pub does_told : (system : System) (asked : List ℕ) (start : Folder) (sought : Sought) (outcome : Outcome)
    → IsStart system asked start → Seeks system start.name.now sought → Tells system start.name.now sought outcome
    → Does system (start_of asked) (path_of system (start_of asked)) outcome
does_told system asked start sought outcome is seeks tells =
    subst (λ (path : Option (List ℕ)). Does system (start_of asked) path outcome) is.1
    (subst (λ (name : List ℕ). (found : Sought) × OnlySeeks system name found × Tells system name found outcome) is.0
    (sought, (seeks, λ other does. seeks-one system start.name.now does seeks), tells))

-- it may stop where it has found something
pub found_stops : (system : System) (asked : List ℕ) (start : Folder) (sought : Sought) (stop : Stop (Vec ℕ))
    → IsStart system asked start → Seeks system start.name.now sought
    → Does system (start_of asked) (path_of system (start_of asked)) (Stops stop)
found_stops system asked start sought stop is seeks = does_told system asked start sought (Stops stop) is seeks tt

pub site_stops : (system : System) (asked : List ℕ) (site : Site) (stop : Stop (Vec ℕ)) → IsSite system asked site
    → Does system (start_of asked) (path_of system (start_of asked)) (Stops stop)
site_stops system asked site stop is = found_stops system asked site.start _ stop is.start is.sought

-- settings or a variable may name a place in each system in which facts are true, and the other way round
pub if_named : {A : Type 0} (facts : List Fact) (place : Option A)
    → ((system : System) → AreTrueIn system facts → IfSome place (λ it. MayName system))
    → IfSome place (λ it. (system : System) → AreTrueIn system facts → MayName system)
if_named facts None named = tt
if_named facts (Some it) named = named

pub named_if : {A : Type 0} (facts : List Fact) (place : Option A)
    → IfSome place (λ it. (system : System) → AreTrueIn system facts → MayName system)
    → (system : System) → AreTrueIn system facts → IfSome place (λ it. MayName system)
named_if facts None named system agrees = tt
named_if facts (Some it) named system agrees = named system agrees

-- a fact that is added takes nothing back
pub told_before : (system : System) (facts : List Fact) (fact : Fact) → AreTrueIn system (facts ++ fact ∷ [])
    → AreTrueIn system facts
told_before system facts fact agrees =
    let same : take (length facts) (facts ++ fact ∷ []) ≡ facts = grind (arith, common_steps) in
    subst (λ (some : List Fact). AreTrueIn system some) same
    (All-take (λ it. IsTrueIn system it) (length facts) (facts ++ fact ∷ []) agrees)

-- what is right stays so after a fact is told, or not told since memory is refused
pub right_after : {A B : Type 0} (asked : List ℕ) (old new : List Fact) (fact : Fact) (stage : Stage) (result : Result A B)
    → OnOk result (new ≡ old ++ fact ∷ []) → OnErr result (new ≡ old) → IsRight asked old stage → IsRight asked new stage
right_after asked old new fact stage (Ok a) told same right = λ system agrees.
    right system (told_before system old fact (subst (λ (facts : List Fact). AreTrueIn system facts) told agrees))
right_after asked old new fact stage (Err b) told same right = λ system agrees.
    right system (subst (λ (facts : List Fact). AreTrueIn system facts) same agrees)

-- what ends a search is right of the same folder and of the same facts
abbrev IsEnd : List ℕ → List Fact → Result Answer Pause → Type 0
IsEnd asked facts end =
    MatchResult end (λ answer. (system : System) → AreTrueIn system facts → Answers system asked answer) (IsNew asked facts)

pub end_by : (asked other : List ℕ) (facts told : List Fact) (end : Result Answer Pause) → other ≡ asked → told ≡ facts
    → MatchResult end (λ answer. (system : System) → AreTrueIn system told → Answers system other answer) (IsNew other told)
    → MatchResult end (λ answer. (system : System) → AreTrueIn system facts → Answers system asked answer) (IsNew asked facts)
end_by asked other facts told end same_asked same_facts is = subst (λ (name : List ℕ). IsEnd name facts end) same_asked
    (subst (λ (some : List Fact). IsEnd other some end) same_facts is)
