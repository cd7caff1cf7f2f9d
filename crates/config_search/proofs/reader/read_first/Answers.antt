use Rattle.std.proofs.Common.{arith, ◌∙◌, sym, []}
use Rattle.config_search.specs.Receiving.{nothing}
use Rattle.config_search.proofs.Readings.{only_one, plain_first}
use Rattle.config_search.proofs.reader.read_first.Goals as goal

pub returns-in_default-clause-reads : goal.returns-in_default-clause-reads
returns-in_default-clause-reads g c = ([], nothing, λ answers left whole has. has)

pub returns-clause-reads : goal.returns-clause-reads
returns-clause-reads g c = plain_first c.args.known.now g.R.Receiver.receives c.args.scope
    c.args.walk.now.frames.items c.args.receiver.now c.frame-item.result c.go_on.new.self.frames.items
    c.in-Some.entries c.in_ok-entries.entries c.read_plain.new.receiver
    (sym c.frames.ensures ∙ only_one c.frames.result.now c.frame-item.result
    (omega (arith, c.in-len1.len_at_least))
    (omega (arith, c.in-len1.len_below)) c.frame-item.is)
    (rw c.default-first.ensures at (c.go_on.ensures.goes_on c.if-not-go_on.false))
    (c.in-Some.ensures.0 ∙ c.parts-line.ensures.0) (c.in-Some.ensures.1 ∙ c.parts-line.ensures.1)
    (c.in-Some.ensures.2 ∙ c.parts-line.ensures.2) c.in_ok-entries.ensures.reads
