use Rattle.std.proofs.Common.{◌≡◌, ◌++◌, ℕ, List}
use Rattle.config_file.specs.File.{Entry}
use Rattle.config_search.specs.System.{System, AreTrueIn}
use Rattle.config_search.specs.Reads.{HoldsFor}
use Rattle.config_search.specs.Reading.{Gets, HasCome}
use Rattle.config_search.proofs.reader.Reader.read.Given as goal

abbrev pub invariant-steps : goal.invariant-steps
invariant-steps g l = ((more : List (List ℕ × Entry)) × Gets g.R.Receiver.receives l.fn.self.source.scope
    l.fn.receiver more l.receiver
    × ((system : System) (found : List (List ℕ × Entry)) → AreTrueIn system l.fn.lookup.facts.now
    → HasCome (HoldsFor system l.fn.folder l.fn.self.source.is_file) l.fn.known l.fn.self found
    → HasCome (HoldsFor system l.fn.folder l.fn.self.source.is_file) l.fn.known l.self (found ++ more)))
    × (l.self.source ≡ l.fn.self.source)
