use Rattle.wasm_forms.specs.Grammar.{Bytes}
use Rattle.wasm_forms.proofs.Exact.{reads}
use Rattle.wasm_forms.proofs.block.read_bytes.Goals as goal

pub returns-clause-found : goal.returns-clause-found
returns-clause-found c = reads (Bytes c.args.count) _ _ _ c.take_bytes.ensures
