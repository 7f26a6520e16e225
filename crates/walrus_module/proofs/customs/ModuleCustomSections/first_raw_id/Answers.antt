use Rattle.walrus_module.proofs.customs.ModuleCustomSections.first_raw_id.Goals as goal

pub loop-id-init : goal.loop-id-init
loop-id-init g c = (tt, tt, rw c.iter-rest.ensures)
