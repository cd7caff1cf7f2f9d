use Rattle.std.proofs.Common.{rules, refl}
use Rattle.config_file.specs.declared.walk.Frame.{Frame}
use Rattle.config_file.proofs.Steps.{exhausted, invalid, takes}
use Rattle.config_file.proofs.walk.Walk.next.Goals as goal

pub frames-preserved : goal.frames-preserved
frames-preserved c = (
  λ answers items whole rest. c.frames.invariant.0 answers items whole (exhausted c.frames.self.frames.items
      c.pop.new.self.items c.in-Some.frame (search rules) (search rules) (rw c.in-None.is at c.next.ensures.steps).0 rest),
  search rules,
)

pub returns-in-Some-Err-clause-takes : goal.returns-in-Some-Err-clause-takes
returns-in-Some-Err-clause-takes c = λ answers items whole rest.
    let gives = rw (c.in-Some-Err.is, c.in-Some-Err.field-0-is) at c.next.ensures.steps in
    c.frames.invariant.0 answers _ _ (invalid c.frames.self.frames.items c.pop.new.self.items c.in-Some.frame
    c.in-Some-Err.error (search rules) (search rules) gives.0 rest)

pub returns-in-Some-clause-takes : goal.returns-in-Some-clause-takes
returns-in-Some-clause-takes c = λ answers.
    let next : Frame = record {
      place = c.in-Some.frame.place;
      entries = c.next.new.self;
      forbids_urls = c.in_ok-forbids_urls.forbids_urls;
    } in
    takes answers c.args.known.now c.args.self.now.frames.items c.frames.self.frames.items _ c.pop.new.self.items
    c.in-Some.frame next c.in-Some-Ok.entry (c.frames.invariant.0 answers) (search rules) (search rules) refl
    (rw (c.in-Some-Ok.is, c.in-Some-Ok.field-0-is) at c.next.ensures.steps) c.in_ok-include.include
    (rw c.none_allowed-none_allowed.ensures at c.in_ok-include.ensures)
    (rw c.none_allowed-none_allowed.ensures at c.in_ok-forbids_urls.ensures)
