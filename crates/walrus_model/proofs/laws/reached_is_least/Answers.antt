use Rattle.walrus_model.proofs.Least.{is_least}
use Rattle.walrus_model.proofs.laws.reached_is_least.Goals as goal

pub returns : goal.returns
returns c = λ m. is_least m
