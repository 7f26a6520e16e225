use Rattle.walrus_module.proofs.EditedItems.{data_added, global_added}
use Rattle.walrus_module.proofs.edits.items_are_added.Goals as goal

pub returns-clause-global : goal.returns-clause-global
returns-clause-global c = global_added

pub returns-clause-segment : goal.returns-clause-segment
returns-clause-segment c = data_added
