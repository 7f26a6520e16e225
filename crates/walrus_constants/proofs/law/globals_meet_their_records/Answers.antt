use Rattle.walrus_model.specs.Sections.{global_of}
use Rattle.walrus_constants.proofs.Items.{global_read, global_renamed}
use Rattle.walrus_constants.proofs.law.globals_meet_their_records.Goals as goal

pub returns-clause-read : goal.returns-clause-read
returns-clause-read c = λ names h g x e. global_read names h g x e

pub returns-clause-written : goal.returns-clause-written
returns-clause-written c = λ r names agrees x g own e. global_renamed r names agrees x (global_of g) own e
