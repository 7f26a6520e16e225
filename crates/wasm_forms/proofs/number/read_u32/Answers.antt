use Rattle.wasm_forms.specs.Grammar.{U32}
use Rattle.wasm_forms.proofs.Exact.{reads}
use Rattle.wasm_forms.proofs.number.read_u32.Goals as goal

pub returns-clause-found : goal.returns-clause-found
returns-clause-found c = reads U32 _ _ _ c.read_any_u32.ensures
