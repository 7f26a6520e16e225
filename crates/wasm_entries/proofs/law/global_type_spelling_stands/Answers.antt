use Rattle.wasm_entries.proofs.LimitsStand.{global_stands}
use Rattle.wasm_entries.proofs.law.global_type_spelling_stands.Goals as goal

pub returns : goal.returns
returns c = global_stands
