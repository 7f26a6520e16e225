use Rattle.wasm_text.proofs.Forms.{small_stands}
use Rattle.wasm_text.proofs.law.small_numbers_stand.Goals as goal

pub returns : goal.returns
returns c = small_stands
