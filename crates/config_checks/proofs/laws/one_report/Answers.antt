use Rattle.config_checks.proofs.OneReport.{report_once, report_begins}
use Rattle.config_checks.proofs.laws.one_report.Goals as goal

pub returns : goal.returns
returns c = record { one = report_once; begins = report_begins }
