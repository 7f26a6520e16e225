use Rattle.wasm_forms.specs.Grammar.{U64}
use Rattle.wasm_forms.proofs.Exact.{reads}
use Rattle.wasm_forms.proofs.number.read_u64.Goals as goal

pub returns-clause-found : goal.returns-clause-found
returns-clause-found c = reads U64 _ _ _ c.read_any_u64.ensures
