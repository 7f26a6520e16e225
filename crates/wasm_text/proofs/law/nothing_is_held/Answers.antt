use Rattle.wasm_text.proofs.Showing.{holds_none}
use Rattle.wasm_text.proofs.law.nothing_is_held.Goals as goal

pub returns : goal.returns
returns c = holds_none
