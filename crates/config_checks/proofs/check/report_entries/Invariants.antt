use Rattle.std.proofs.Common.{IfSome}
use Rattle.config_checks.specs.Reading.Steps.{IsFirstRun, IsKept}
use Rattle.config_checks.specs.Rows.{rows_of}
use Rattle.config_checks.proofs.CheckLemmas.{IsReported}
use Rattle.config_checks.proofs.check.report_entries.Given as goal

abbrev pub invariant-loop-entry : goal.invariant-loop-entry
invariant-loop-entry g l = IfSome l.progress.last (IsKept l.runs) × IsFirstRun l.runs l.progress.near
    × IsReported (rows_of l.runs) l.options l.file l.text l.entry-iterator
    (g.R.Receiver.received l.fn.receiver) (g.R.Receiver.received l.receiver) l.progress.counts
