use Rattle.walrus_model.proofs.ImportedZip.{imported_zip, written_both}
use Rattle.walrus_model.proofs.family.imports_bring.Goals as goal

pub returns-clause-along : goal.returns-clause-along
returns-clause-along g = λ r v s order ws h. imported_zip r v s order ws h

pub returns-clause-whole : goal.returns-clause-whole
returns-clause-whole g = λ r v n plan s order local ws things is reads brought stand. written_both r v n plan s order local ws things is reads brought stand
