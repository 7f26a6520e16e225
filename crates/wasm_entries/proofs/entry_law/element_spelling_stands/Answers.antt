use Rattle.wasm_entries.proofs.Segments.{element_stands}
use Rattle.wasm_entries.proofs.entry_law.element_spelling_stands.Goals as goal

pub returns : goal.returns
returns c = element_stands
