use Rattle.wasm_forms.proofs.Spelled.{name_stands}
use Rattle.wasm_forms.proofs.law.name_spelling_stands.Goals as goal

pub returns : goal.returns
returns c = name_stands c.args.text.now c.utf8.text
