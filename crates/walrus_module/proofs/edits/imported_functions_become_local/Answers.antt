use Rattle.walrus_module.proofs.EditedReplaced.{imported_replaced}
use Rattle.walrus_module.proofs.edits.imported_functions_become_local.Goals as goal

pub returns : goal.returns
returns g c = imported_replaced _ _
