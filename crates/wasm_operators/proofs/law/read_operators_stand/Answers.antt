use Rattle.wasm_operators.proofs.Taken.{operator_good}
use Rattle.wasm_operators.proofs.law.read_operators_stand.Goals as goal

pub returns : goal.returns
returns c = operator_good
