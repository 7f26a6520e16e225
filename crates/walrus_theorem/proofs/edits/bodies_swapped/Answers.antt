use Rattle.walrus_theorem.proofs.EditFunctions.{bodies_swapped}
use Rattle.walrus_theorem.proofs.edits.bodies_swapped.Goals as goal

pub returns : goal.returns
returns c = bodies_swapped
