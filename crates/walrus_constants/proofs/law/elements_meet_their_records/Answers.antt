use Rattle.walrus_model.specs.Sections.{element_of}
use Rattle.walrus_constants.proofs.Segments.{element_read, element_renamed}
use Rattle.walrus_constants.proofs.law.elements_meet_their_records.Goals as goal

pub returns-clause-read : goal.returns-clause-read
returns-clause-read c = λ names h e x is. element_read names h e x is

pub returns-clause-written : goal.returns-clause-written
returns-clause-written c = λ r names agrees x e is. element_renamed r names agrees x (element_of e) is
