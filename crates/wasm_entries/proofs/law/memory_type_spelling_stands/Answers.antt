use Rattle.wasm_entries.proofs.LimitsStand.{memory_stands}
use Rattle.wasm_entries.proofs.law.memory_type_spelling_stands.Goals as goal

pub returns : goal.returns
returns c = memory_stands
