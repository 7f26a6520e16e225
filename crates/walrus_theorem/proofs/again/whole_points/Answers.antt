use Rattle.walrus_theorem.proofs.AgainAll.{whole_points, comes_whole_in_form}
use Rattle.walrus_theorem.proofs.again.whole_points.Goals as goal

pub returns-clause-points : goal.returns-clause-points
returns-clause-points c = whole_points

pub returns-clause-out : goal.returns-clause-out
returns-clause-out c = comes_whole_in_form
