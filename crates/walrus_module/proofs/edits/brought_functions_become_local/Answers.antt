use Rattle.walrus_module.proofs.EditedReplaced.{import_replaced}
use Rattle.walrus_module.proofs.edits.brought_functions_become_local.Goals as goal

pub returns : goal.returns
returns g c = import_replaced _ _
