use Rattle.config_search.specs.Reading.{ReadsPlain, in_one}
use Rattle.config_search.proofs.reader.read_plain.Given as goal

abbrev pub invariant-plain : goal.invariant-plain
invariant-plain g l = ReadsPlain l.fn.known g.R.Receiver.receives l.fn.scope (in_one l.fn.place l.fn.entries)
    (in_one l.fn.place l.left) l.fn.receiver l.receiver
