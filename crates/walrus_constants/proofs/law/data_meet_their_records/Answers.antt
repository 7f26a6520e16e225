use Rattle.walrus_model.specs.Sections.{data_of}
use Rattle.walrus_constants.proofs.Segments.{data_read, data_renamed}
use Rattle.walrus_constants.proofs.law.data_meet_their_records.Goals as goal

pub returns-clause-read : goal.returns-clause-read
returns-clause-read c = λ names h d x is. data_read names h d x is

pub returns-clause-written : goal.returns-clause-written
returns-clause-written c = λ r names agrees x d is. data_renamed r names agrees x (data_of d) is
