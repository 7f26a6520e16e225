use Rattle.wasm_text.proofs.Read.{index_read}
use Rattle.wasm_text.proofs.law.standing_indices_are_read.Goals as goal

pub returns : goal.returns
returns c = index_read
