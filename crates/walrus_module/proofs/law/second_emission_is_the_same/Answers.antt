use Rattle.walrus_module.proofs.WellWritten.{emits_again, unsayable_open}
use Rattle.walrus_module.proofs.law.second_emission_is_the_same.Goals as goal

pub returns-clause-same : goal.returns-clause-same
returns-clause-same g c = emits_again _

pub returns-clause-needed : goal.returns-clause-needed
returns-clause-needed g c = unsayable_open _
