use Rattle.wasm_forms.specs.Grammar.{Block}
use Rattle.wasm_forms.proofs.Exact.{reads}
use Rattle.wasm_forms.proofs.block.read_block.Goals as goal

pub returns-clause-found : goal.returns-clause-found
returns-clause-found c = reads Block _ _ _ c.take_block.ensures
