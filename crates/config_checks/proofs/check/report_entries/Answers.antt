use Rattle.std.proofs.Common.{arith, Some, None}
use Rattle.config_checks.proofs.CheckLemmas.{are_none, reported_start, one_more, reported, fails_reading}
use Rattle.config_checks.proofs.CheckLemmas.{leaves_room, on_err, receives-nil}
use Rattle.config_checks.proofs.check.report_entries.Goals as goal

pub loop-entry-init : goal.loop-entry-init
loop-entry-init g c =
    let none = c.default.ensures in (
      tt,
      λ run less is k d inside. absurd (omega (arith, inside)),
      rw c.into_iter-entry-iterator.ensures.into_iter_gives
          (reported_start _ _ _ _ c.new-entry-items.result _ c.default.result c.new-entry-items.ensures.section c.new-entry-items.ensures.begins
          (are_none c.default.result none.0 none.1.0 none.1.1.0 none.1.1.1.0 none.1.1.1.1)),
    )

pub returns-in-Err-clause-ok : goal.returns-in-Err-clause-ok
returns-in-Err-clause-ok g c =
    let gives = rw c.in-Err.is at c.in-Some.ensures.steps in
    reported _ _ _ _ _ _ _ _ c.loop-entry.invariant.2 (Some c.in-Err.error) gives.0

pub returns-in-Err-clause-room : goal.returns-in-Err-clause-room
returns-in-Err-clause-room g c =
    let so_far = c.loop-entry.invariant.2 in leaves_room _ so_far.within (omega (arith, so_far.fits))

pub returns-in-Err-of_entry-clause-err : goal.returns-in-Err-of_entry-clause-err
returns-in-Err-of_entry-clause-err g c = fails_reading _ _ _ _ _ _ _ _ c.loop-entry.invariant.2 _ (receives-nil _)

pub report-requires : goal.report-requires
report-requires g c =
    let so_far = c.loop-entry.invariant.2 in record {
      marked = c.requires;
      room = record { entries = omega (arith, so_far.fits); others = so_far.within };
      last = c.loop-entry.invariant.0;
      near = c.loop-entry.invariant.1;
    }

pub returns-in_err-progress-clause-err : goal.returns-in_err-progress-clause-err
returns-in_err-progress-clause-err g c =
    on_err _ _ (fails_reading _ _ _ _ _ _ _ _ c.loop-entry.invariant.2 _ c.in_err-progress.ensures.err)

pub loop-entry-preserved : goal.loop-entry-preserved
loop-entry-preserved g c =
    let gives = rw c.in-Ok.is at c.in-Some.ensures.steps in (
      c.in_ok-progress.ensures.last,
      c.in_ok-progress.ensures.near,
      one_more _ _ _ _ _ _ _ _ c.loop-entry.invariant.2 _ c.in-Ok.entry c.in-Ok-of_entry.setting gives c.in-Ok-of_entry.ensures _ _
          (c.in-Some.ensures.goes.on tt).2 c.in_ok-progress.ensures.ok,
    )

pub loop-entry-preserved-in_ok-progress : goal.loop-entry-preserved-in_ok-progress
loop-entry-preserved-in_ok-progress g c =
    let gives = rw c.in-Ok.is at c.in-Some.ensures.steps in (
      c.in_ok-progress.ensures.last,
      c.in_ok-progress.ensures.near,
      one_more _ _ _ _ _ _ _ _ c.loop-entry.invariant.2 _ c.in-Ok.entry c.in-Ok-of_entry.setting gives c.in-Ok-of_entry.ensures _ _
          (c.in-Some.ensures.goes.on tt).2 c.in_ok-progress.ensures.ok,
    )

pub returns-clause-ok : goal.returns-clause-ok
returns-clause-ok g c = reported _ _ _ _ _ _ _ _ c.loop-entry.invariant.2 None c.in-None.ensures.steps.0

pub returns-clause-room : goal.returns-clause-room
returns-clause-room g c =
    let so_far = c.loop-entry.invariant.2 in leaves_room _ so_far.within (omega (arith, so_far.fits))
