use Rattle.walrus_module.proofs.EditedReplaced.{exported_replaced}
use Rattle.walrus_module.proofs.edits.exported_functions_are_replaced.Goals as goal

pub returns : goal.returns
returns g c = exported_replaced _ _
