-- What a system answers at one moment, and what it means that facts are true there.
use Rattle.std.specs.Prelude.{◌≡◌, ◌≢◌, ℕ, List, Option, None, Some, if◌then◌else◌, ◌==◌, ◌⊎◌}
use Rattle.std.specs.List.{All}
use Rattle.config_search.specs.declared.fact.Fact.{Fact}

-- a snapshot of a system: the answer to each question, which has a subject and a name
abbrev pub System : Type 0
System = ℕ → List ℕ → Option (List ℕ)

-- the answer that a fact gives: its text, or none if its flag is 0
abbrev pub answer_of : Fact → Option (List ℕ)
answer_of fact = if fact.has == 0 then None else Some fact.text.now

-- the fact gives the answer of the system
abbrev pub IsTrueIn : System → Fact → Type 0
IsTrueIn system fact = system fact.subject fact.name.now ≡ answer_of fact

-- each fact gives the answer of the system
abbrev pub AreTrueIn : System → List Fact → Type 0
AreTrueIn system facts = All (IsTrueIn system) facts

-- the fact answers another question
abbrev pub Differs : ℕ → List ℕ → Fact → Type 0
Differs subject name fact = (fact.subject ≢ subject) ⊎ (fact.name.now ≢ name)

-- no fact answers this question
abbrev pub IsOpen : List Fact → ℕ → List ℕ → Type 0
IsOpen facts subject name = All (Differs subject name) facts

-- the fact answers this question, by the name that it asks about
abbrev pub IsFactOf : List Fact → ℕ → List ℕ → Fact → Type 0
IsFactOf facts subject name fact = (fact.name.now ≡ name)
    × ((system : System) → AreTrueIn system facts → system subject name ≡ answer_of fact)
