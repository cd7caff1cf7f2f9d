use Rattle.std.proofs.Common.{rules, refl}
use Rattle.config_file.proofs.Coming.{keeps_first, keeps_more, keeps_end, keeps_error, keeps_memory}
use Rattle.config_file.proofs.Scopes.{scope_none, scope_both}
use Rattle.config_file.proofs.settings.Settings.add_with_includes.Goals as goal

pub steps-init : goal.steps-init
steps-init g c = (
  keeps_first (g.S.Files.contents c.args.files.now) c.args.known.now c.args.place c.args.text.now
      c.args.self.now.entries.items _ c.new-walk.ensures,
  scope_none c.args.scope c.args.self.now.entries.items,
)

pub steps-preserved : goal.steps-preserved
steps-preserved g c = (
  keeps_more c.steps.invariant.0 _ _ c.in-Ok.goes_on (search rules) (rw c.in-Ok.is at c.add_next.ensures.adds),
  scope_both c.args.scope c.args.self.now.entries.items c.steps.self.entries.items c.add_next.new.self.entries.items
      c.steps.invariant.1 c.add_next.ensures.scope,
)

pub returns-then-not-goes_on-clause-adds : goal.returns-then-not-goes_on-clause-adds
returns-then-not-goes_on-clause-adds g c =
    keeps_end c.steps.invariant.0 c.add_next.new.self.entries.items c.add_next.new.walk.frames.items c.in-Ok.goes_on _
    (search rules) (rw c.in-Ok.is at c.add_next.ensures.adds)

pub returns-in-Err-clause-adds : goal.returns-in-Err-clause-adds
returns-in-Err-clause-adds g c =
    keeps_error c.steps.invariant.0 c.add_next.new.self.entries.items c.add_next.new.walk.frames.items c.in-Err.error
    c.steps.walk.fits (rw c.in-Err.is at c.add_next.ensures.adds)

pub returns-clause-adds : goal.returns-clause-adds
returns-clause-adds g c =
    keeps_memory c.steps.invariant.0 c.steps.self.entries.items _ c.steps.walk.fits refl

pub returns-in-Err-clause-scope : goal.returns-in-Err-clause-scope
returns-in-Err-clause-scope g c =
    scope_both c.args.scope c.args.self.now.entries.items c.steps.self.entries.items c.add_next.new.self.entries.items
    c.steps.invariant.1 c.add_next.ensures.scope
