use Rattle.walrus_theorem.proofs.EditTops.{export_gained, export_lost, export_renamed, export_turned}
use Rattle.walrus_theorem.proofs.edits.exports_edited.Goals as goal

pub returns-clause-gained : goal.returns-clause-gained
returns-clause-gained c = export_gained

pub returns-clause-lost : goal.returns-clause-lost
returns-clause-lost c = export_lost

pub returns-clause-renamed : goal.returns-clause-renamed
returns-clause-renamed c = export_renamed

pub returns-clause-turned : goal.returns-clause-turned
returns-clause-turned c = export_turned
