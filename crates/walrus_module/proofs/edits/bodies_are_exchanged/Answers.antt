use Rattle.walrus_module.proofs.EditedFunctions.{bodies_set}
use Rattle.walrus_module.proofs.edits.bodies_are_exchanged.Goals as goal

pub returns : goal.returns
returns c = bodies_set
