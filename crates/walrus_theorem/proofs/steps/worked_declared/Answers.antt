use Rattle.walrus_theorem.proofs.WorkedDeclared.{declared_runs}
use Rattle.walrus_theorem.proofs.steps.worked_declared.Goals as goal

pub returns : goal.returns
returns c = declared_runs
