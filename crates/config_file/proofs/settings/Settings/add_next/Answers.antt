use Rattle.std.proofs.Common.{rules, refl, [], ◌∷◌}
use Rattle.config_file.specs.Views.{entry_of}
use Rattle.config_file.specs.Walk.{Line, TooDeep}
use Rattle.config_file.proofs.Adding.{adds_none}
use Rattle.config_file.proofs.Coming.{line_next, ends_next, passed_next, entered_next, deep_next, stop_comes, told_in_words}
use Rattle.config_file.proofs.settings.Settings.add_next.Goals as goal

pub returns-in-Line-clause-adds : goal.returns-in-Line-clause-adds
returns-in-Line-clause-adds g c = (
  [],
  c.in-Line.place.name.now,
  Line c.in-Line.error,
  adds_none c.args.self.now.entries.items,
  told_in_words c.at.ensures.place.0 c.at.ensures.place.1 c.at.ensures.reason.0 c.at.ensures.reason.1,
  (
    c.next.new.self.frames.items,
    c.next.new.self.fits,
    line_next (g.S.Files.contents c.args.files.now) c.args.known.now c.args.walk.now.frames.items
        c.next.new.self.frames.items c.in-Line.place c.in-Line.error
        (λ answers. rw c.in-Line.is at (c.in-Ok.ensures.takes answers)),
  ),
)

pub returns-in-Ends-clause-adds : goal.returns-in-Ends-clause-adds
returns-in-Ends-clause-adds g c =
    let (none, comes) = ends_next (g.S.Files.contents c.args.files.now) c.args.known.now
    c.args.walk.now.frames.items c.next.new.self.frames.items
    (λ answers. rw c.in-Ends.is at (c.in-Ok.ensures.takes answers)) in (refl, none, comes)

pub returns-in-Behind-clause-adds : goal.returns-in-Behind-clause-adds
returns-in-Behind-clause-adds g c = (
  (c.in-Entry.place.name.now, entry_of c.in-Entry.entry),
  c.in-Ok-add.ensures.adds,
  passed_next (g.S.Files.contents c.args.files.now) c.args.known.now c.args.walk.now.frames.items
      c.next.new.self.frames.items c.in-Entry.place c.in-Entry.entry c.in-Entry.include
      (λ answers. rw c.in-Entry.is at (c.in-Ok.ensures.takes answers)) (rw c.in-Behind.is at c.in-Ok-next_of.ensures),
)

pub returns-in-In-clause-adds : goal.returns-in-In-clause-adds
returns-in-In-clause-adds g c = (
  (c.in-Entry.place.name.now, entry_of c.in-Entry.entry),
  c.in-Ok-add.ensures.adds,
  entered_next (g.S.Files.contents c.args.files.now) c.args.known.now c.args.walk.now.frames.items
      c.next.new.self.frames.items c.enter.new.self.frames.items c.in-Entry.place c.in-In.place c.in-Entry.entry
      c.in-Entry.include c.in-In.text.now (λ answers. rw c.in-Entry.is at (c.in-Ok.ensures.takes answers))
      (rw c.in-In.is at c.in-Ok-next_of.ensures) (c.enter.ensures.entered (search rules)),
)

pub returns-in-In-2-clause-adds : goal.returns-in-In-2-clause-adds
returns-in-In-2-clause-adds g c = (
  (c.in-Entry.place.name.now, entry_of c.in-Entry.entry) ∷ [],
  c.in-Entry.place.name.now,
  TooDeep (entry_of c.in-Entry.entry),
  c.in-Ok-add.ensures.adds,
  told_in_words c.at-in-In-2.ensures.place.0 c.at-in-In-2.ensures.place.1 c.at-in-In-2.ensures.reason.0 c.at-in-In-2.ensures.reason.1,
  (
    c.next.new.self.frames.items,
    c.next.new.self.fits,
    deep_next (g.S.Files.contents c.args.files.now) c.args.known.now c.args.walk.now.frames.items
        c.next.new.self.frames.items c.in-Entry.place c.in-In.place c.in-Entry.entry c.in-Entry.include
        c.in-In.text.now (λ answers. rw c.in-Entry.is at (c.in-Ok.ensures.takes answers))
        (rw c.in-In.is at c.in-Ok-next_of.ensures) (search rules),
  ),
)

pub returns-in-Stops-clause-adds : goal.returns-in-Stops-clause-adds
returns-in-Stops-clause-adds g c =
    let (stop, tells, comes) = stop_comes (g.S.Files.contents c.args.files.now) c.args.known.now
    c.args.walk.now.frames.items c.next.new.self.frames.items c.in-Entry.place c.in-Entry.entry
    c.in-Entry.include (record { file = c.in-Entry.place.name; line = (entry_of c.in-Entry.entry).line; why = c.in-Stops.why; words = c.in-Stops.words })
    (λ answers. rw c.in-Entry.is at (c.in-Ok.ensures.takes answers))
    ((rw c.in-Stops.is at c.in-Ok-next_of.ensures).0) ((rw c.in-Stops.is at c.in-Ok-next_of.ensures).1) refl refl in (
      (c.in-Entry.place.name.now, entry_of c.in-Entry.entry) ∷ [],
      c.in-Entry.place.name.now,
      stop,
      c.in-Ok-add.ensures.adds,
      tells,
      (c.next.new.self.frames.items, c.next.new.self.fits, comes),
    )
