use Rattle.walrus_functions.proofs.LawWritable.{ill_formed}
use Rattle.walrus_functions.proofs.law.unwritable_is_ill_formed.Goals as goal

pub returns : goal.returns
returns c = ill_formed
