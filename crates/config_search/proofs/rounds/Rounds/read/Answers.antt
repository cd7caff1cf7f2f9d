use Rattle.std.proofs.Common.{[], ◌++◌, ◌∙◌, Err, Ok, refl}
use Rattle.std.proofs.lemmas.List.{append-nil}
use Rattle.config_search.specs.Receiving.{nothing}
use Rattle.config_search.proofs.Phases.{pauses, plain_ends, right_of}
use Rattle.config_search.proofs.rounds.Rounds.read.Goals as goal

pub returns-in-Err-clause-reads : goal.returns-in-Err-clause-reads
returns-in-Err-clause-reads g c = pauses c.args.lookup.now.facts.now c.args.start.now g.R.Receiver.receives
    c.args.self.now
    c.ask.new.self c.args.receiver.now c.in-Err.pause c.in-Err.ensures.goes

pub returns-in-Err-seek-clause-reads : goal.returns-in-Err-seek-clause-reads
returns-in-Err-seek-clause-reads g c =
    let (first, keeps) = c.in-Ok.ensures.goes in
    let (second, seeks) = c.in-Err-seek.ensures.seeks in (
      (second.0 ∙ first.0, second.1 ∙ first.1),
      λ kept. (
        [],
        nothing,
        λ system opened read agrees right are. rw (append-nil read) (seeks system opened read agrees
            (right_of system c.args.start.now c.args.self.now c.ask.new.self opened first right)
            (keeps system opened read agrees right are)),
      ),
    )

pub returns-in-Some-clause-reads : goal.returns-in-Some-clause-reads
returns-in-Some-clause-reads g c =
    let (first, keeps) = c.in-Ok.ensures.goes in
    let (second, seeks) = c.in-Ok-seek.ensures.seeks in
    let (third, ends) = c.read_by_urls.ensures.reads in (
      (third.0 ∙ second.0 ∙ first.0, third.1 ∙ second.1 ∙ first.1),
      λ kept.
          let (more, each, comes) = ends kept in (
            more,
            each,
            λ system opened read agrees right are.
                let mid = right_of system c.args.start.now c.args.self.now c.ask.new.self opened first
                right in
                comes system opened read agrees (right_of system c.args.start.now c.ask.new.self
                c.seek.new.self opened second mid)
                (rw c.in-Some.is at (seeks system opened read agrees mid
                (keeps system opened read agrees right are))),
          ),
    )

pub returns-in-Ok-read-clause-reads : goal.returns-in-Ok-read-clause-reads
returns-in-Ok-read-clause-reads g c =
    let (first, keeps) = c.in-Ok.ensures.goes in
    let (second, seeks) = c.in-Ok-seek.ensures.seeks in (
      (second.0 ∙ first.0, second.1 ∙ first.1),
      λ kept.
          let (more, each, comes) = c.in-Ok-read.ensures.reads kept in (
            more,
            each,
            λ system opened read agrees right are.
                let mid = right_of system c.args.start.now c.args.self.now c.ask.new.self opened first
                right in
                let (plain, rounds) = rw c.in-None.is at (seeks system opened read agrees mid
                (keeps system opened read agrees right are)) in
                let (asks, come) = rw plain at rounds in
                let now = right_of system c.args.start.now c.ask.new.self c.seek.new.self opened second mid in
                plain_ends system c.args.start.now c.seek.new.self
                (record {
                  texts = c.seek.new.self.texts;
                  known = c.seek.new.self.known;
                  round = c.read.new.self;
                  phase = c.seek.new.self.phase;
                })
                opened (read ++ more) (Ok tt) (refl, refl) plain asks
                (comes system opened read agrees now.0 now.1 come),
          ),
    )

pub returns-in-Err-read-clause-reads : goal.returns-in-Err-read-clause-reads
returns-in-Err-read-clause-reads g c =
    let (first, keeps) = c.in-Ok.ensures.goes in
    let (second, seeks) = c.in-Ok-seek.ensures.seeks in (
      (second.0 ∙ first.0, second.1 ∙ first.1),
      λ kept.
          let (more, each, comes) = c.in-Err-read.ensures.reads kept in (
            more,
            each,
            λ system opened read agrees right are.
                let mid = right_of system c.args.start.now c.args.self.now c.ask.new.self opened first
                right in
                let (plain, rounds) = rw c.in-None.is at (seeks system opened read agrees mid
                (keeps system opened read agrees right are)) in
                let (asks, come) = rw plain at rounds in
                let now = right_of system c.args.start.now c.ask.new.self c.seek.new.self opened second mid in
                plain_ends system c.args.start.now c.seek.new.self
                (record {
                  texts = c.seek.new.self.texts;
                  known = c.seek.new.self.known;
                  round = c.read.new.self;
                  phase = c.seek.new.self.phase;
                })
                opened (read ++ more) (Err c.in-Err-read.halt) (refl, refl) plain asks
                (comes system opened read agrees now.0 now.1 come),
          ),
    )
