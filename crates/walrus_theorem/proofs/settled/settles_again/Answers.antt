use Rattle.walrus_theorem.proofs.SettleAll.{out_settles, runs_settle}
use Rattle.walrus_theorem.proofs.settled.settles_again.Goals as goal

pub returns-clause-steps : goal.returns-clause-steps
returns-clause-steps c = out_settles

pub returns-clause-runs : goal.returns-clause-runs
returns-clause-runs c = runs_settle
