use Rattle.walrus_module.proofs.EditedItems.{type_found}
use Rattle.walrus_module.proofs.edits.types_are_found.Goals as goal

pub returns : goal.returns
returns c = type_found
