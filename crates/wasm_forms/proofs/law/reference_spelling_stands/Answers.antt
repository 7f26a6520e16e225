use Rattle.wasm_forms.proofs.Stands.{reference_stands}
use Rattle.wasm_forms.proofs.law.reference_spelling_stands.Goals as goal

pub returns : goal.returns
returns c = reference_stands c.args.reference
