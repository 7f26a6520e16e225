use Rattle.wasm_entries.proofs.Entries.{global_stands}
use Rattle.wasm_entries.proofs.entry_law.global_spelling_stands.Goals as goal

pub returns : goal.returns
returns c = global_stands
