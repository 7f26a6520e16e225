use Rattle.walrus_module.proofs.EditedFunctions.{function_added, function_imported}
use Rattle.walrus_module.proofs.edits.functions_are_added.Goals as goal

pub returns-clause-local : goal.returns-clause-local
returns-clause-local c = function_added

pub returns-clause-imported : goal.returns-clause-imported
returns-clause-imported c = function_imported
