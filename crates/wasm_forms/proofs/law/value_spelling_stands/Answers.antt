use Rattle.wasm_forms.proofs.Stands.{value_stands}
use Rattle.wasm_forms.proofs.law.value_spelling_stands.Goals as goal

pub returns : goal.returns
returns c = value_stands c.args.value
