use Rattle.walrus_module.proofs.EditedExports.{export_added}
use Rattle.walrus_module.proofs.edits.exports_are_added.Goals as goal

pub returns : goal.returns
returns c = export_added
