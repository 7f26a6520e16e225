use Rattle.wasm_forms.specs.Grammar.{S32}
use Rattle.wasm_forms.proofs.Exact.{reads}
use Rattle.wasm_forms.proofs.number.read_s32.Goals as goal

pub returns-clause-found : goal.returns-clause-found
returns-clause-found c = reads S32 _ _ _ c.read_any_s32.ensures
