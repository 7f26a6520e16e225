use Rattle.wasm_entries.proofs.Entries.{import_stands}
use Rattle.wasm_entries.proofs.entry_law.import_spelling_stands.Goals as goal

pub returns : goal.returns
returns c = import_stands
