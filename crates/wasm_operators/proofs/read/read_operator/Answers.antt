use Rattle.wasm_forms.proofs.Exact.{reads}
use Rattle.wasm_operators.specs.Forms.{operator}
use Rattle.wasm_operators.proofs.read.read_operator.Goals as goal

pub returns-clause-found : goal.returns-clause-found
returns-clause-found c = reads operator _ _ _ c.take_operator.ensures
