use Rattle.walrus_theorem.proofs.WorkedRun.{row_runs}
use Rattle.walrus_theorem.proofs.steps.worked_run.Goals as goal

pub returns : goal.returns
returns c = row_runs
