use Rattle.std.proofs.Common.{[], ◌∷◌, ◌++◌, ◌∙◌, ap, sym}
use Rattle.config_file.specs.Errors.{why_text}
use Rattle.config_file.specs.Views.{entry_of}
use Rattle.config_search.specs.Receiving.{nothing}
use Rattle.config_search.specs.Reads.{HoldsFor}
use Rattle.config_search.proofs.Readings.{ends, entry_stops, gets_one, halts_as, line_stops, one_passed}
use Rattle.config_search.proofs.Readings.{one_waits}
use Rattle.config_search.proofs.reader.Reader.read_next.Goals.{in-MissingValue, in-UnknownDirectory}
use Rattle.config_search.proofs.reader.Reader.read_next.Goals.{in-ForbiddenUrl}
use Rattle.config_search.proofs.reader.Reader.read_next.Goals as goal

pub returns-in-Line-clause-reads : goal.returns-in-Line-clause-reads
returns-in-Line-clause-reads g c = λ kept. (
  [],
  nothing,
  λ system start found came. halts_as (HoldsFor system start c.args.self.now.source.is_file) c.args.known.now
      (record { source = c.args.self.now.source; walk = c.next.new.self; waits = c.args.self.now.waits })
      (found ++ []) c.at.result c.in_ok-stop-in-Line.field-0 c.in_ok-stop-in-Line.ensures.stops
      (λ told copy. line_stops (HoldsFor system start c.args.self.now.source.is_file) c.args.known.now
      c.args.self.now.source
      found c.args.self.now.walk.frames.items c.next.new.self.frames.items (rw c.requires at came)
      c.in-Line.place
      c.in-Line.error told c.next.new.self.fits (λ answers. rw c.in-Line.is at
      (c.in_ok-place.ensures.takes answers))
      (copy.0 ∙ c.at.ensures.place.0) (copy.1 ∙ c.at.ensures.place.1) (copy.2 ∙ c.at.ensures.reason.0)),
)

pub returns-in-Ends-clause-reads : goal.returns-in-Ends-clause-reads
returns-in-Ends-clause-reads g c = λ kept. (
  [],
  nothing,
  λ system start found came. ends (HoldsFor system start c.args.self.now.source.is_file) c.args.known.now
      c.args.self.now.source found c.args.self.now.walk.frames.items c.next.new.self.frames.items
      (rw c.requires at came)
      (λ answers. rw c.in-Ends.is at (c.in_ok-place.ensures.takes answers)),
)

pub returns-in-NotFollowed-clause-reads : goal.returns-in-NotFollowed-clause-reads
returns-in-NotFollowed-clause-reads g c = λ kept. (
  (c.in-Entry.place.name.now, entry_of c.in-Entry.entry) ∷ [],
  gets_one g.R.Receiver.receives c.args.self.now.source.scope c.args.receiver.now c.receive.new.self _
      c.in-Ok.ensures,
  λ system start found came. rw c.requires (one_passed (HoldsFor system start c.args.self.now.source.is_file)
      c.args.known.now c.args.self.now.source found c.args.self.now.walk.frames.items
      c.next.new.self.frames.items
      (rw c.requires at came) c.in-Entry.place c.in-Entry.entry
      (λ answers. rw (c.in-Entry.is, c.in-NotFollowed.is) at (c.in_ok-place.ensures.takes answers))),
)

pub returns-in-Named-clause-reads : goal.returns-in-Named-clause-reads
returns-in-Named-clause-reads g c = λ kept. (
  (c.in-Entry.place.name.now, entry_of c.in-Entry.entry) ∷ [],
  gets_one g.R.Receiver.receives c.args.self.now.source.scope c.args.receiver.now c.receive.new.self _
      c.in-Ok.ensures,
  λ system start found came. one_waits (HoldsFor system start c.args.self.now.source.is_file)
      c.args.known.now c.args.self.now.source found c.args.self.now.walk.frames.items
      c.next.new.self.frames.items
      (rw c.requires at came) c.in-Entry.place c.in-Entry.entry c.in-Named.name
      (λ answers. rw (c.in-Entry.is, c.in-Named.is) at (c.in_ok-place.ensures.takes answers)),
)

pub returns-clause-reads : goal.returns-clause-reads
returns-clause-reads g c = λ kept. (
  (c.in-Entry.place.name.now, entry_of c.in-Entry.entry) ∷ [],
  gets_one g.R.Receiver.receives c.args.self.now.source.scope c.args.receiver.now c.receive.new.self _
      c.in-Ok.ensures,
  λ system start found came. halts_as (HoldsFor system start c.args.self.now.source.is_file) c.args.known.now
      (record { source = c.args.self.now.source; walk = c.next.new.self; waits = c.args.self.now.waits })
      (found ++ (c.in-Entry.place.name.now, entry_of c.in-Entry.entry) ∷ []) c.at-2.result
      c.in_ok-stop.field-0 c.in_ok-stop.ensures.stops
      (λ told copy. entry_stops (HoldsFor system start c.args.self.now.source.is_file) c.args.known.now
      c.args.self.now.source found c.args.self.now.walk.frames.items c.next.new.self.frames.items
      (rw c.requires at came)
      c.in-Entry.place c.in-Entry.entry c.in-Entry.include c.at-2.result told c.next.new.self.fits
      (λ answers. rw c.in-Entry.is at (c.in_ok-place.ensures.takes answers))
      (elim c.match-include-2.branch [
        | in-MissingValue w ↦ rw w.in-MissingValue.is (c.at-2.ensures.reason.0 ∙ w.why-is)
        | in-UnknownDirectory w ↦ rw w.in-UnknownDirectory.is (c.at-2.ensures.reason.0 ∙ w.why-is)
        | in-ForbiddenUrl w ↦ rw w.in-ForbiddenUrl.is (c.at-2.ensures.reason.0 ∙ w.why-is)
      ]) (λ other. c.at-2.ensures.reason.1 ∙ ap why_text (sym c.at-2.ensures.reason.0)) c.at-2.ensures.place.0
      c.at-2.ensures.place.1 copy),
)
