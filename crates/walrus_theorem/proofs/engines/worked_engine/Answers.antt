use Rattle.walrus_theorem.proofs.WorkedEngine.{engine_runs}
use Rattle.walrus_theorem.proofs.engines.worked_engine.Goals as goal

pub returns : goal.returns
returns c = engine_runs
