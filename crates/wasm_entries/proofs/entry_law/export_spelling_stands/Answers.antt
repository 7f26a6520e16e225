use Rattle.wasm_entries.proofs.Entries.{export_stands}
use Rattle.wasm_entries.proofs.entry_law.export_spelling_stands.Goals as goal

pub returns : goal.returns
returns c = export_stands
