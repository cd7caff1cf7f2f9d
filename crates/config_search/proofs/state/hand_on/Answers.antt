use Rattle.std.specs.Prelude.{option_copied}
use Rattle.config_search.proofs.Handings.{ends_in, pauses_in, rounds_in}
use Rattle.config_search.proofs.state.hand_on.Goals as goal

pub returns-in-Some-clause-hands : goal.returns-in-Some-clause-hands
returns-in-Some-clause-hands g c = pauses_in c.args.lookup.now.facts.now c.args.follows (option_copied c.args.start)
    c.args.answer.now g.R.Receiver.receives c.args.state c.open-state.result.state c.args.receiver.now
    c.open-state.ensures.keeps c.in-Some.pause

pub returns-in-Reads-clause-hands : goal.returns-in-Reads-clause-hands
returns-in-Reads-clause-hands g c = rounds_in c.args.lookup.now.facts.now c.args.follows (option_copied c.args.start)
    c.args.answer.now g.R.Receiver.receives c.args.state c.open-state.result.state c.args.receiver.now
    c.open-state.ensures.keeps c.in-Reads.rounds c.in-Reads.is c.start_of.result.now c.start_of.ensures
    c.hand_rounds.result.state c.hand_rounds.new.receiver c.hand_rounds.result.end c.hand_rounds.ensures.hands

pub returns-in-Ends-clause-hands : goal.returns-in-Ends-clause-hands
returns-in-Ends-clause-hands g c = ends_in c.args.lookup.now.facts.now c.args.follows (option_copied c.args.start)
    c.args.answer.now g.R.Receiver.receives c.args.state c.open-state.result.state c.args.receiver.now
    c.open-state.ensures.keeps c.in-Ends.is
