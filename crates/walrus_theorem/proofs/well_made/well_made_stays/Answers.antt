use Rattle.walrus_theorem.proofs.WellStays as stays
use Rattle.walrus_theorem.proofs.NoCause as none
use Rattle.walrus_theorem.proofs.well_made.well_made_stays.Goals as goal

pub returns-clause-collected : goal.returns-clause-collected
returns-clause-collected c = stays.collected_well

pub returns-clause-leaves : goal.returns-clause-leaves
returns-clause-leaves c = stays.leaves_well

pub returns-clause-no_cause : goal.returns-clause-no_cause
returns-clause-no_cause c = none.well_no_cause
