use Rattle.std.proofs.Common.{Ok, Err, []}
use Rattle.std.proofs.lemmas.List.{append-nil}
use Rattle.config_search.specs.System.{AreTrueIn}
use Rattle.config_search.specs.Receiving.{nothing}
use Rattle.config_search.specs.Reads.{HoldsFor}
use Rattle.config_search.specs.Reading.{ComesNext, HasCome}
use Rattle.config_search.proofs.Readings.{and_more_of, plain_came}
use Rattle.config_search.proofs.reader.Reader.step.Goals as goal

pub returns-in-Err-clause-reads : goal.returns-in-Err-clause-reads
returns-in-Err-clause-reads g c = λ kept. (
  [],
  nothing,
  λ system found agrees come. rw (append-nil found) (c.in-Err.ensures.keeps system c.args.known.now found
      agrees come),
)

pub returns-in-Ok-read_next-clause-reads : goal.returns-in-Ok-read_next-clause-reads
returns-in-Ok-read_next-clause-reads g c = λ kept. and_more_of g.R.Receiver.receives c.args.self.now.source
    c.go_on.new.self.source
    c.go_on.ensures.source c.args.receiver.now c.read_first.new.receiver c.read_next.new.receiver
    (λ system. AreTrueIn system c.args.lookup.now.facts.now)
    (λ system found. HasCome (HoldsFor system c.args.folder.now c.args.self.now.source.is_file)
    c.args.known.now
    c.args.self.now found)
    (λ source system found. HasCome (HoldsFor system c.args.folder.now source.is_file) c.args.known.now
    (record {
      source = c.go_on.new.self.source;
      walk = c.read_first.new.walk;
      waits = c.go_on.new.self.waits;
    }) found)
    (λ source system found. ComesNext (HoldsFor system c.args.folder.now source.is_file) c.args.known.now
    c.read_next.new.self found (Ok c.in-Ok-read_next.goes))
    (let (more, gets, passes) = c.in_ok-read_first.ensures.reads in (
      more,
      rw c.go_on.ensures.source at gets,
      λ system found agrees come. rw c.in-Ok.ensures.goes (plain_came _ _ c.go_on.new.self.source _ _ found
          more
          (rw c.in-Ok.ensures.goes at (c.in-Ok.ensures.keeps system c.args.known.now found agrees come))
          passes),
    ))
    (let (more, gets, comes) = c.in-Ok-read_next.ensures.reads kept in
    (more, gets, λ system found agrees come. comes system c.args.folder.now found come))

pub returns-in-Err-read_next-clause-reads : goal.returns-in-Err-read_next-clause-reads
returns-in-Err-read_next-clause-reads g c = λ kept. and_more_of g.R.Receiver.receives
    c.args.self.now.source c.go_on.new.self.source
    c.go_on.ensures.source c.args.receiver.now c.read_first.new.receiver c.read_next.new.receiver
    (λ system. AreTrueIn system c.args.lookup.now.facts.now)
    (λ system found. HasCome (HoldsFor system c.args.folder.now c.args.self.now.source.is_file)
    c.args.known.now
    c.args.self.now found)
    (λ source system found. HasCome (HoldsFor system c.args.folder.now source.is_file) c.args.known.now
    (record {
      source = c.go_on.new.self.source;
      walk = c.read_first.new.walk;
      waits = c.go_on.new.self.waits;
    }) found)
    (λ source system found. ComesNext (HoldsFor system c.args.folder.now source.is_file) c.args.known.now
    c.read_next.new.self found (Err c.in-Err-read_next.halt))
    (let (more, gets, passes) = c.in_ok-read_first.ensures.reads in (
      more,
      rw c.go_on.ensures.source at gets,
      λ system found agrees come. rw c.in-Ok.ensures.goes (plain_came _ _ c.go_on.new.self.source _ _ found
          more
          (rw c.in-Ok.ensures.goes at (c.in-Ok.ensures.keeps system c.args.known.now found agrees come))
          passes),
    ))
    (let (more, gets, comes) = c.in-Err-read_next.ensures.reads kept in
    (more, gets, λ system found agrees come. comes system c.args.folder.now found come))

pub returns-in-Err-read_next-clause-asks : goal.returns-in-Err-read_next-clause-asks
returns-in-Err-read_next-clause-asks g c =
    c.in-Err-read_next.ensures.asks c.args.lookup.now.folder.now c.args.lookup.now.facts.now
