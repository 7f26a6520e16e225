use Rattle.walrus_module.proofs.EditedFunctions.{import_set}
use Rattle.walrus_module.proofs.edits.imports_are_renamed.Goals as goal

pub returns : goal.returns
returns c = import_set
