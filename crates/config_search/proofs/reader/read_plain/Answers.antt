use Rattle.std.proofs.Common.{◌∙◌, []}
use Rattle.config_file.specs.Views.{entry_of}
use Rattle.config_file.proofs.Readings.{gives_entry}
use Rattle.config_search.specs.Receiving.{nothing}
use Rattle.config_search.specs.Reading.{in_one}
use Rattle.config_search.proofs.Readings.{plain_again, plain_more, plain_step}
use Rattle.config_search.proofs.reader.read_plain.Goals as goal

pub plain-init : goal.plain-init
plain-init g c = ([], nothing, λ answers left whole has. has)

pub plain-preserved : goal.plain-preserved
plain-preserved g c = plain_more c.args.known.now g.R.Receiver.receives c.args.scope
    (in_one c.args.place c.args.entries) c.args.receiver.now (in_one c.args.place c.plain.left)
    (in_one c.args.place c.advance.new.self) c.plain.receiver c.receive.new.self
    (c.args.place.name.now, entry_of c.entry-entry.result) c.plain.invariant c.in-Ok.ensures
    (plain_step c.args.known.now c.args.place c.plain.left c.advance.new.self c.entry-entry.result
    (gives_entry c.in-Some.form c.plain.left c.advance.new.self c.entry-entry.result
    c.in_default-form.not-Refused
    c.entry-entry.ensures c.in-Some.ensures.advances)
    (rw c.in-NotFollowed.is at c.in_ok-include_of-in_default-form.ensures))

pub returns-in-Some-resume-clause-reads : goal.returns-in-Some-resume-clause-reads
returns-in-Some-resume-clause-reads g c = plain_again c.args.known.now g.R.Receiver.receives c.args.scope
    (in_one c.args.place c.args.entries) c.args.receiver.now c.args.place c.plain.left c.in-Some-resume.same
    c.plain.receiver
    (c.in-Some-resume.ensures.0 ∙ c.parts-line.ensures.0) (c.in-Some-resume.ensures.1
    ∙ c.parts-line.ensures.1)
    (c.in-Some-resume.ensures.2 ∙ c.parts-line.ensures.2) c.plain.invariant
