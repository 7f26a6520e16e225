use Rattle.wasm_text.proofs.Showing.{holds_more}
use Rattle.wasm_text.proofs.law.operator_behind_held.Goals as goal

pub returns : goal.returns
returns c = holds_more
