use Rattle.wasm_forms.specs.Grammar.{IndexFrom}
use Rattle.wasm_forms.proofs.Exact.{reads}
use Rattle.wasm_forms.proofs.number.read_index_from.Goals as goal

pub returns-clause-found : goal.returns-clause-found
returns-clause-found c = reads (IndexFrom c.args.first) _ _ _ c.read_any_index.ensures
