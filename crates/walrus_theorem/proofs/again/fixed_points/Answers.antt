use Rattle.walrus_theorem.proofs.AgainAll.{fixed_points, comes_out_settled}
use Rattle.walrus_theorem.proofs.WorkedForm.{settled_examples}
use Rattle.walrus_theorem.proofs.again.fixed_points.Goals as goal

pub returns-clause-points : goal.returns-clause-points
returns-clause-points c = fixed_points

pub returns-clause-out : goal.returns-clause-out
returns-clause-out c = comes_out_settled

pub returns-clause-examples : goal.returns-clause-examples
returns-clause-examples c = settled_examples
