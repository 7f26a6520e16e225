use Rattle.walrus_module.proofs.EditedCustoms.{custom_added}
use Rattle.walrus_module.proofs.edits.customs_are_added.Goals as goal

pub returns : goal.returns
returns g c = custom_added _
