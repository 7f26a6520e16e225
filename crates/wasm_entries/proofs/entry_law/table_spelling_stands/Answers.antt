use Rattle.wasm_entries.proofs.Entries.{table_stands}
use Rattle.wasm_entries.proofs.entry_law.table_spelling_stands.Goals as goal

pub returns : goal.returns
returns c = table_stands
