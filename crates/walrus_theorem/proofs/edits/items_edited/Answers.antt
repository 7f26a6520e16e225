use Rattle.walrus_theorem.proofs.EditItems.{imported_gained, imported_lost, item_gained, item_lost}
use Rattle.walrus_theorem.proofs.edits.items_edited.Goals as goal

pub returns-clause-gained : goal.returns-clause-gained
returns-clause-gained c = item_gained

pub returns-clause-imported : goal.returns-clause-imported
returns-clause-imported c = imported_gained

pub returns-clause-lost : goal.returns-clause-lost
returns-clause-lost c = item_lost

pub returns-clause-imported_lost : goal.returns-clause-imported_lost
returns-clause-imported_lost c = imported_lost
