use Rattle.wasm_text.proofs.Renaming.{lacking_lacks}
use Rattle.wasm_text.proofs.law.lacking_marks_are_of_operators.Goals as goal

pub returns : goal.returns
returns c = lacking_lacks
