use Rattle.wasm_entries.proofs.TypesStand.{group_stands}
use Rattle.wasm_entries.proofs.law.group_spelling_stands.Goals as goal

pub returns : goal.returns
returns c = group_stands
