use Rattle.wasm_operators.proofs.Stands.{operator_stands}
use Rattle.wasm_operators.proofs.law.operator_spelling_stands.Goals as goal

pub returns : goal.returns
returns c = operator_stands
