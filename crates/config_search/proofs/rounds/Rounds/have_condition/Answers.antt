use Rattle.std.proofs.Common.{◌++◌}
use Rattle.config_search.specs.Reads.{At, Whole}
use Rattle.config_search.proofs.Phases.{finds_halt, finds_more}
use Rattle.config_search.proofs.rounds.Rounds.have_condition.Goals as goal

pub returns-in-Ok-clause-finds : goal.returns-in-Ok-clause-finds
returns-in-Ok-clause-finds c = λ system opened first agrees right come have.
    let (more, each, comes) = c.in-Ok.ensures.reads tt in
    (first ++ more, Whole, comes system opened first agrees right.0 right.1 come, finds_more first each have)

pub returns-in-Ok-into_stop-clause-finds : goal.returns-in-Ok-into_stop-clause-finds
returns-in-Ok-into_stop-clause-finds c = λ system opened first agrees right come have.
    let (more, each, comes) = (rw c.in-Ok-into_stop.ensures.same at c.in-Err.ensures.reads) tt in
    let (stop, reads, tells) = comes system opened first agrees right.0 right.1 come in
    (first ++ more, At stop, reads, finds_more first each have)

pub returns-clause-finds : goal.returns-clause-finds
returns-clause-finds c = λ system opened first agrees right come have. finds_halt system c.args.start.now
    (record {
      texts = c.args.self.now.texts;
      known = c.args.self.now.known;
      round = c.read.new.self;
      phase = c.args.self.now.phase;
    })
    c.args.conditions.now c.read.new.receiver first opened c.in-Err.halt c.in-Err-into_stop.pause
    c.in-Err-into_stop.ensures.same have
    (λ kept. let (more, each, comes) = c.in-Err.ensures.reads kept in
    (more, each, comes system opened first agrees right.0 right.1 come))
