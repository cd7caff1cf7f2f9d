use Rattle.std.proofs.Common.{Ok, Err, refl}
use Rattle.config_search.specs.declared.state.State.TheVariants.{Reads, Ends, Lost}
use Rattle.config_search.specs.declared.fact.Pause.TheVariants.{Ask}
use Rattle.config_search.specs.declared.halt.Halt.TheVariants.{Pauses, Stops}
use Rattle.config_search.proofs.Handings.{hands_rounds}
use Rattle.config_search.proofs.state.hand_rounds.Goals as goal

pub returns-in-Ok-clause-hands : goal.returns-in-Ok-clause-hands
returns-in-Ok-clause-hands g c = hands_rounds c.args.lookup.now.facts.now c.args.start.now g.R.Receiver.receives
    c.args.rounds c.read.new.self Ends c.args.receiver.now c.read.new.receiver (Ok c.in-Ok.field-0) refl
    c.in-Ok.ensures.reads

pub returns-in-Ask-clause-hands : goal.returns-in-Ask-clause-hands
returns-in-Ask-clause-hands g c = hands_rounds c.args.lookup.now.facts.now c.args.start.now g.R.Receiver.receives
    c.args.rounds c.read.new.self (Reads c.read.new.self) c.args.receiver.now c.read.new.receiver
    (Err (Pauses (Ask c.in-Ask.question))) refl (rw (rw c.in-Ask.is at c.in-Pauses.is) at c.in-Err.ensures.reads)

pub returns-in-Stops-clause-hands : goal.returns-in-Stops-clause-hands
returns-in-Stops-clause-hands g c = hands_rounds c.args.lookup.now.facts.now c.args.start.now g.R.Receiver.receives
    c.args.rounds c.read.new.self Lost c.args.receiver.now c.read.new.receiver (Err (Stops c.in-Stops.stop)) tt
    (rw c.in-Stops.is at c.in-Err.ensures.reads)
