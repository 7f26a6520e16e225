use Rattle.walrus_module.proofs.EditedCustoms.{custom_set}
use Rattle.walrus_module.proofs.edits.customs_are_exchanged.Goals as goal

pub returns : goal.returns
returns g c = custom_set _
