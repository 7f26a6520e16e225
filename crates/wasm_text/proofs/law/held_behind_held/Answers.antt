use Rattle.wasm_text.proofs.Showing.{holds_append}
use Rattle.wasm_text.proofs.law.held_behind_held.Goals as goal

pub returns : goal.returns
returns c = holds_append
