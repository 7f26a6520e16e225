use Rattle.wasm_entries.proofs.Constants.{expression_stands}
use Rattle.wasm_entries.proofs.entry_law.expression_spelling_stands.Goals as goal

pub returns : goal.returns
returns c = expression_stands
