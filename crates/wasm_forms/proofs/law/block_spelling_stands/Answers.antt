use Rattle.wasm_forms.proofs.Spelled.{block_stands}
use Rattle.wasm_forms.proofs.law.block_spelling_stands.Goals as goal

pub returns : goal.returns
returns c = block_stands c.args.block.now
