use Rattle.walrus_module.proofs.CheckedWell.{checked_well}
use Rattle.walrus_module.proofs.law.checked_is_well_made.Goals as goal

pub returns : goal.returns
returns g c = checked_well _
