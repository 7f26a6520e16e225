use Rattle.wasm_entries.proofs.TypesStand.{groups_stand}
use Rattle.wasm_entries.proofs.law.groups_spelling_stands.Goals as goal

pub returns : goal.returns
returns c = groups_stand
