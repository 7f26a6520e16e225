use Rattle.wasm_forms.specs.Grammar.{S64}
use Rattle.wasm_forms.proofs.Exact.{reads}
use Rattle.wasm_forms.proofs.number.read_s64.Goals as goal

pub returns-clause-found : goal.returns-clause-found
returns-clause-found c = reads S64 _ _ _ c.read_any_s64.ensures
