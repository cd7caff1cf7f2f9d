use Rattle.std.proofs.Common.{Err, Ok, ◌∙◌, [], true, false, refl}
use Rattle.std.proofs.lemmas.List.{append-nil}
use Rattle.config_search.specs.System.{AreTrueIn}
use Rattle.config_search.specs.Receiving.{nothing}
use Rattle.config_search.specs.Reads.{HoldsFor}
use Rattle.config_search.specs.Reading.{ComesNext, HasCome}
use Rattle.config_search.proofs.Readings.{and_more_of}
use Rattle.config_search.proofs.reader.Reader.read.Goals as goal

pub steps-init : goal.steps-init
steps-init g c = (([], nothing, λ system found agrees come. rw (append-nil found) come), refl)

pub returns-in-Err-clause-reads : goal.returns-in-Err-clause-reads
returns-in-Err-clause-reads g c = λ kept. and_more_of g.R.Receiver.receives c.args.self.now.source
    c.steps.self.source
    c.steps.invariant.1 c.args.receiver.now c.steps.receiver c.step.new.receiver
    (λ system. AreTrueIn system c.args.lookup.now.facts.now)
    (λ system found. HasCome (HoldsFor system c.args.folder.now c.args.self.now.source.is_file)
    c.args.known.now
    c.args.self.now found)
    (λ source system found. HasCome (HoldsFor system c.args.folder.now source.is_file) c.args.known.now
    c.steps.self found)
    (λ source system found. ComesNext (HoldsFor system c.args.folder.now source.is_file) c.args.known.now
    c.step.new.self found (Err c.in-Err.halt))
    c.steps.invariant.0 (c.in-Err.ensures.reads kept)

pub returns-then-not-goes-clause-reads : goal.returns-then-not-goes-clause-reads
returns-then-not-goes-clause-reads g c = λ kept. and_more_of g.R.Receiver.receives c.args.self.now.source
    c.steps.self.source
    c.steps.invariant.1 c.args.receiver.now c.steps.receiver c.step.new.receiver
    (λ system. AreTrueIn system c.args.lookup.now.facts.now)
    (λ system found. HasCome (HoldsFor system c.args.folder.now c.args.self.now.source.is_file)
    c.args.known.now
    c.args.self.now found)
    (λ source system found. HasCome (HoldsFor system c.args.folder.now source.is_file) c.args.known.now
    c.steps.self found)
    (λ source system found. ComesNext (HoldsFor system c.args.folder.now source.is_file) c.args.known.now
    c.step.new.self found (Ok false))
    c.steps.invariant.0 (rw c.if-not-goes.true at (c.in-Ok.ensures.reads tt))

pub steps-preserved : goal.steps-preserved
steps-preserved g c = (
  and_more_of g.R.Receiver.receives c.args.self.now.source c.steps.self.source
      c.steps.invariant.1 c.args.receiver.now c.steps.receiver c.step.new.receiver
      (λ system. AreTrueIn system c.args.lookup.now.facts.now)
      (λ system found. HasCome (HoldsFor system c.args.folder.now c.args.self.now.source.is_file)
      c.args.known.now
      c.args.self.now found)
      (λ source system found. HasCome (HoldsFor system c.args.folder.now source.is_file) c.args.known.now
      c.steps.self found)
      (λ source system found. ComesNext (HoldsFor system c.args.folder.now source.is_file) c.args.known.now
      c.step.new.self found (Ok true))
      c.steps.invariant.0 (rw c.if-not-goes.false at (c.in-Ok.ensures.reads tt)),
  c.step.ensures.source ∙ c.steps.invariant.1,
)
