use Rattle.walrus_theorem.proofs.WorkedReport.{report_is}
use Rattle.walrus_theorem.proofs.settled.worked_report.Goals as goal

pub returns : goal.returns
returns c = report_is
