use Rattle.walrus_theorem.proofs.WorkedHandler.{handler_runs}
use Rattle.walrus_theorem.proofs.steps.worked_handler.Goals as goal

pub returns : goal.returns
returns c = handler_runs
