use Rattle.wasm_text.proofs.Read.{scanned_more}
use Rattle.wasm_text.proofs.law.scanned_behind_held.Goals as goal

pub returns : goal.returns
returns c = scanned_more
