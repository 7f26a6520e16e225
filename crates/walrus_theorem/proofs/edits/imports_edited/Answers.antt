use Rattle.walrus_theorem.proofs.EditFunctions.{made_imported, made_local}
use Rattle.walrus_theorem.proofs.EditTops.{import_renamed}
use Rattle.walrus_theorem.proofs.edits.imports_edited.Goals as goal

pub returns-clause-renamed : goal.returns-clause-renamed
returns-clause-renamed c = import_renamed

pub returns-clause-made_local : goal.returns-clause-made_local
returns-clause-made_local c = made_local

pub returns-clause-made_imported : goal.returns-clause-made_imported
returns-clause-made_imported c = made_imported
