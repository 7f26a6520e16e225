use Rattle.wasm_entries.proofs.LimitsStand.{table_stands}
use Rattle.wasm_entries.proofs.law.table_type_spelling_stands.Goals as goal

pub returns : goal.returns
returns c = table_stands
