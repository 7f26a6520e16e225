use Rattle.wasm_text.proofs.Filling.{fill_front}
use Rattle.wasm_text.proofs.law.filled_behind_filled.Goals as goal

pub returns : goal.returns
returns c = fill_front
