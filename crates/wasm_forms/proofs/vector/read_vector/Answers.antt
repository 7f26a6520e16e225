use Rattle.wasm_forms.specs.Grammar.{Vector}
use Rattle.wasm_forms.proofs.Exact.{reads}
use Rattle.wasm_forms.proofs.vector.read_vector.Goals as goal

pub returns-clause-found : goal.returns-clause-found
returns-clause-found g c = reads (Vector g.E.Element.form) _ _ _ c.take_vector.ensures
