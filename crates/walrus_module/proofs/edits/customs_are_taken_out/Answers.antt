use Rattle.walrus_module.proofs.EditedCustoms.{custom_deleted, raw_removed}
use Rattle.walrus_module.proofs.edits.customs_are_taken_out.Goals as goal

pub returns-clause-deleted : goal.returns-clause-deleted
returns-clause-deleted g c = custom_deleted _

pub returns-clause-removed : goal.returns-clause-removed
returns-clause-removed g c = raw_removed _
