use Rattle.walrus_theorem.proofs.EditTops.{custom_gained, custom_lost, custom_swapped}
use Rattle.walrus_theorem.proofs.edits.customs_edited.Goals as goal

pub returns-clause-gained : goal.returns-clause-gained
returns-clause-gained c = custom_gained

pub returns-clause-lost : goal.returns-clause-lost
returns-clause-lost c = custom_lost

pub returns-clause-swapped : goal.returns-clause-swapped
returns-clause-swapped c = custom_swapped
