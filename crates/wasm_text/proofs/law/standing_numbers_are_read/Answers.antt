use Rattle.wasm_text.proofs.Read.{number_read}
use Rattle.wasm_text.proofs.law.standing_numbers_are_read.Goals as goal

pub returns : goal.returns
returns c = number_read
