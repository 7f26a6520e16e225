use Rattle.wasm_forms.specs.Grammar.{F32}
use Rattle.wasm_forms.proofs.Exact.{reads}
use Rattle.wasm_forms.proofs.float.read_f32.Goals as goal

pub returns-clause-found : goal.returns-clause-found
returns-clause-found c = reads F32 _ _ _ c.take_f32.ensures
