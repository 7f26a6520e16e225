use Rattle.wasm_forms.specs.Grammar.{F64}
use Rattle.wasm_forms.proofs.Exact.{reads}
use Rattle.wasm_forms.proofs.float.read_f64.Goals as goal

pub returns-clause-found : goal.returns-clause-found
returns-clause-found c = reads F64 _ _ _ c.take_f64.ensures
