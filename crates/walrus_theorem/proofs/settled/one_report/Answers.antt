use Rattle.walrus_theorem.proofs.OneReport as report
use Rattle.walrus_theorem.proofs.settled.one_report.Goals as goal

pub returns-clause-modules : goal.returns-clause-modules
returns-clause-modules c = report.one_report

pub returns-clause-bytes : goal.returns-clause-bytes
returns-clause-bytes c = report.one_report_of
