use Rattle.walrus_theorem.proofs.Alternatives.{has_alternatives}
use Rattle.walrus_theorem.proofs.spelling.has_alternatives.Goals as goal

pub returns : goal.returns
returns g = has_alternatives
