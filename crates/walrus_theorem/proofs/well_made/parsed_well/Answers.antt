use Rattle.walrus_theorem.proofs.BroughtWell as brought
use Rattle.walrus_theorem.proofs.WritableParsed as writable
use Rattle.walrus_theorem.proofs.well_made.parsed_well.Goals as goal

pub returns-clause-well : goal.returns-clause-well
returns-clause-well c = writable.parsed_is_well

pub returns-clause-brought : goal.returns-clause-brought
returns-clause-brought c = brought.brought_well
