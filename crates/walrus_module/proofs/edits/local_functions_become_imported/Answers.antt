use Rattle.walrus_module.proofs.EditedFunctions.{function_made_imported}
use Rattle.walrus_module.proofs.edits.local_functions_become_imported.Goals as goal

pub returns : goal.returns
returns c = function_made_imported
