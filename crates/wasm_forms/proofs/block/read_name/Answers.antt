use Rattle.wasm_forms.specs.Grammar.{name}
use Rattle.wasm_forms.proofs.Exact.{reads}
use Rattle.wasm_forms.proofs.block.read_name.Goals as goal

pub returns-clause-found : goal.returns-clause-found
returns-clause-found c = reads name _ _ _ c.take_name.ensures
