use Rattle.walrus_model.specs.Sections.{table_of}
use Rattle.walrus_constants.proofs.Items.{table_read, table_renamed}
use Rattle.walrus_constants.proofs.law.tables_meet_their_records.Goals as goal

pub returns-clause-read : goal.returns-clause-read
returns-clause-read c = λ names h t x e. table_read names h t x e

pub returns-clause-written : goal.returns-clause-written
returns-clause-written c = λ r names agrees x t own e. table_renamed r names agrees x (table_of t) own e
