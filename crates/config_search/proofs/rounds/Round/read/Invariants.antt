use Rattle.std.proofs.Common.{◌++◌, List}
use Rattle.std.specs.List.{All}
use Rattle.config_search.specs.System.{System, AreTrueIn}
use Rattle.config_search.specs.Reads.{ReadEntry}
use Rattle.config_search.specs.Receiving.{ReceivesEach}
use Rattle.config_search.specs.Reading.{InRound, IsAtDir}
use Rattle.config_search.proofs.rounds.Round.read.Given as goal

abbrev pub invariant-texts : goal.invariant-texts
invariant-texts g l = (more : List ReadEntry) × ReceivesEach g.R.Receiver.receives l.fn.receiver more
    l.receiver
    × ((system : System) (read : List ReadEntry) → AreTrueIn system l.fn.lookup.facts.now
    → All (IsAtDir system l.fn.start) l.fn.texts.list.items
    → InRound system l.fn.start l.fn.known l.fn.texts.list.items l.fn.self read
    → InRound system l.fn.start l.fn.known l.fn.texts.list.items l.self (read ++ more))
