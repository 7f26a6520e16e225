use Rattle.walrus_module.proofs.EditedExports.{export_set}
use Rattle.walrus_module.proofs.edits.exports_are_exchanged.Goals as goal

pub returns : goal.returns
returns c = export_set
