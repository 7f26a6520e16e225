use Rattle.walrus_theorem.proofs.Runs.{runs_fine, runs_output, runs_ok, runs_too_large, runs_few}
use Rattle.walrus_theorem.proofs.run.runs_come_out.Goals as goal

pub returns-clause-fine : goal.returns-clause-fine
returns-clause-fine c = runs_fine

pub returns-clause-output : goal.returns-clause-output
returns-clause-output c = runs_output

pub returns-clause-ok : goal.returns-clause-ok
returns-clause-ok c = runs_ok

pub returns-clause-too_large : goal.returns-clause-too_large
returns-clause-too_large c = runs_too_large

pub returns-clause-few : goal.returns-clause-few
returns-clause-few c = runs_few
