use Rattle.std.proofs.Common.{inl, inr, rules, sym, ◌∙◌}
use Rattle.config_file.specs.Views.{entry_of}
use Rattle.config_file.specs.Walk.{Missing, Text, TooDeep, Unreadable}
use Rattle.config_search.specs.Reads.{HoldsFor}
use Rattle.config_search.proofs.Readings.{follows, halts_here, held_for, not_read, passes, refused_for}
use Rattle.config_search.proofs.Readings.{too_deep}
use Rattle.config_search.proofs.reader.Reader.go_on.Goals.{in-Missing, in-Text+else-not-enter}
use Rattle.config_search.proofs.reader.Reader.go_on.Goals as goal

pub returns-then-not-may_include-clause-keeps : goal.returns-then-not-may_include-clause-keeps
returns-then-not-may_include-clause-keeps c = λ system known found agrees come.
    halts_here (HoldsFor system c.args.folder.now c.args.self.now.source.is_file) known c.args.self.now
    found _ _ _
    c.in_ok-of_no_file.field-0 c.in_ok-of_no_file.ensures.stops
    (λ told file line why.
    let (stop, at, because, walks) = not_read (rw c.in-Some.is at come)
    (refused_for system c.args.folder.now c.args.self.now.source.is_file c.in-Some.waits.name.items
    (rw c.deref.ensures.value at (sym c.may_include.ensures ∙ c.if-not-may_include.true)))
    c.args.self.now.walk.fits in
    (c.in-Some.waits.place.name.now, stop, walks, (file, line ∙ at, inr (why, sym because))))

pub returns-in-Unreadable-clause-keeps : goal.returns-in-Unreadable-clause-keeps
returns-in-Unreadable-clause-keeps c = λ system known found agrees come.
    halts_here (HoldsFor system c.args.folder.now c.args.self.now.source.is_file) known c.args.self.now
    found _ _ _
    c.in_ok-not_read-in-Unreadable.field-0 c.in_ok-not_read-in-Unreadable.ensures.stops
    (λ told file line why.
    let (stop, at, because, walks) = not_read (rw c.in-Some.is at come)
    (held_for system c.args.folder.now c.args.self.now.source.is_file c.in-Some.waits.name.items Unreadable
    (rw c.deref.ensures.value at (sym c.may_include.ensures ∙ c.if-not-may_include.false))
    (rw (c.in-Unreadable.is, c.deref-2.ensures.value) at (c.in_ok-content_of.ensures system agrees)))
    c.args.self.now.walk.fits in
    (c.in-Some.waits.place.name.now, stop, walks, (file, line ∙ at, inl (why ∙ because))))

pub returns-then-not-enter-clause-keeps : goal.returns-then-not-enter-clause-keeps
returns-then-not-enter-clause-keeps c = λ system known found agrees come.
    let held = rw (c.in-Text.is, c.deref-2.ensures.value) at (c.in_ok-content_of.ensures system agrees) in
    halts_here (HoldsFor system c.args.folder.now c.args.self.now.source.is_file) known
    (record { source = c.args.self.now.source; walk = c.enter.new.self; waits = c.args.self.now.waits })
    found _ _ _
    c.in_ok-too_deep-in-Text.field-0 c.in_ok-too_deep-in-Text.ensures.stops
    (λ told file line why. (
      c.in-Some.waits.place.name.now,
      TooDeep (entry_of c.in-Some.waits.entry),
      too_deep (rw c.in-Some.is at come) c.in-Text.place c.in-Text.text.now held.0
          (rw held.0 (held_for system c.args.folder.now c.args.self.now.source.is_file
          c.in-Some.waits.name.items
          (Text c.in-Text.place.real_dir.now c.in-Text.text.now)
          (rw c.deref.ensures.value at (sym c.may_include.ensures ∙ c.if-not-may_include.false)) held.1))
          (c.enter.ensures.too_deep (search rules)).1,
      (file, line, inl why),
    ))

pub returns-clause-keeps : goal.returns-clause-keeps
returns-clause-keeps c = λ system known found agrees come.
    let held = rw c.deref-2.ensures.value at (c.in_ok-content_of.ensures system agrees) in
    elim c.match-branch-3.branch [
      | in-Missing w ↦ rw w.self-is (passes (rw c.in-Some.is at come) (held_for system c.args.folder.now
          c.args.self.now.source.is_file c.in-Some.waits.name.items Missing
          (rw c.deref.ensures.value at (sym c.may_include.ensures ∙ c.if-not-may_include.false))
          (rw w.in-Missing.is at held)))
      | in-Text+else-not-enter w ↦
          let is = rw w.in-Text.is at held in
          rw w.self-is (follows (rw c.in-Some.is at come) w.enter.new.self.frames.items w.in-Text.place
          w.in-Text.text.now
          is.0 (rw is.0 (held_for system c.args.folder.now c.args.self.now.source.is_file
          c.in-Some.waits.name.items
          (Text w.in-Text.place.real_dir.now w.in-Text.text.now)
          (rw c.deref.ensures.value at (sym c.may_include.ensures ∙ c.if-not-may_include.false)) is.1))
          (w.enter.ensures.entered w.if-not-enter.false))
    ]
