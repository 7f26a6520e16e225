use Rattle.walrus_module.proofs.EditedExports.{export_deleted}
use Rattle.walrus_module.proofs.edits.exports_are_deleted.Goals as goal

pub returns : goal.returns
returns c = export_deleted
