use Rattle.wasm_forms.proofs.Stands.{heap_stands}
use Rattle.wasm_forms.proofs.law.heap_spelling_stands.Goals as goal

pub returns : goal.returns
returns c = heap_stands c.args.heap
