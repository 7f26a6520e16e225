use Rattle.walrus_bodies.proofs.RangeLemmas.{args_first}
use Rattle.walrus_bodies.proofs.function.LocalFunction.args_are_first.Goals as goal

pub returns : goal.returns
returns c = args_first c.args.self.now
