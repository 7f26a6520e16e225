use Rattle.wasm_entries.proofs.LimitsStand.{tag_stands}
use Rattle.wasm_entries.proofs.law.tag_type_spelling_stands.Goals as goal

pub returns : goal.returns
returns c = tag_stands
