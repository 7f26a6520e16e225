use Rattle.wasm_forms.proofs.Exact.{one_reading}
use Rattle.wasm_operators.specs.Forms.{operator}
use Rattle.wasm_operators.proofs.law.one_operator.Goals as goal

pub returns : goal.returns
returns c = one_reading operator
