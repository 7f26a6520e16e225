use Rattle.wasm_text.proofs.Renaming.{filled_renamed}
use Rattle.wasm_text.proofs.law.filled_operators_are_renamed.Goals as goal

pub returns : goal.returns
returns c = filled_renamed
