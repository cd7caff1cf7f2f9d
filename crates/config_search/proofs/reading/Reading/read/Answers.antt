use Rattle.config_search.proofs.Handings.{hands_here, pauses_here, stops_here}
use Rattle.config_search.proofs.reading.Reading.read.Goals as goal

pub returns-in-Err-clause-hands : goal.returns-in-Err-clause-hands
returns-in-Err-clause-hands g c = pauses_here g.R.Receiver.receives c.args.self.now c.seek.new.self
    c.args.receiver.now c.in-Err.pause c.seek.ensures.keeps

pub returns-in-Err-check_answer-clause-asks : goal.returns-in-Err-check_answer-clause-asks
returns-in-Err-check_answer-clause-asks g c = c.in-Err-check_answer.ensures.asks c.args.self.now.search.folder
    c.args.self.now.search.facts

pub returns-in-Err-check_answer-clause-hands : goal.returns-in-Err-check_answer-clause-hands
returns-in-Err-check_answer-clause-hands g c = stops_here g.R.Receiver.receives c.args.self.now c.seek.new.self
    c.args.receiver.now c.in-Err-check_answer.halt c.in-Err-check_answer.ensures.stops c.seek.ensures.keeps

pub returns-clause-hands : goal.returns-clause-hands
returns-clause-hands g c = hands_here g.R.Receiver.receives c.args.self.now c.seek.new.self
    (record {
      search = c.take_state-state.new.self.search;
      follows = c.take_state-state.new.self.follows;
      start = c.take_state-state.new.self.start;
      answer = c.take_state-state.new.self.answer;
      state = c.hand_on-state.result.state;
    })
    c.lookup-2.result.facts.now c.take_state-state.result c.args.receiver.now
    c.hand_on-state.new.receiver c.hand_on-state.result.end
    (rw c.seek.ensures.same.0 at (rw c.take_state-state.ensures.same.0 at c.lookup-2.ensures.1))
    c.take_state-state.ensures.taken c.take_state-state.ensures.same.0 c.take_state-state.ensures.same.1
    c.take_state-state.ensures.same.2 c.take_state-state.ensures.same.3 c.in-Ok-check_answer.ensures.stops
    c.seek.ensures.keeps c.hand_on-state.ensures.hands
