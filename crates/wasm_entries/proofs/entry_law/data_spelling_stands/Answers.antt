use Rattle.wasm_entries.proofs.Segments.{data_stands}
use Rattle.wasm_entries.proofs.entry_law.data_spelling_stands.Goals as goal

pub returns : goal.returns
returns c = data_stands
